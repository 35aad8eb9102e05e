-- What Star Wars answers.
use Rattle.std.specs.Prelude.{ℕ, List, Option, Some, None, codes, map, option_map, position}
use Rattle.std.specs.Prelude.{slice_get, if◌then◌else◌}
use Rattle.std.specs.Borrow.{Bor}
use Rattle.std.specs.Option.{option_map_or, option_or}
use Rattle.std.specs.Result.{result_ok}
use Rattle.std.specs.Str.{bytes_eq}
use Rattle.graphql_resolvers.specs.Answers as answers
use Rattle.graphql_resolvers.specs.Answers.{Answer, Bytes, ◌>>=◌}
use Rattle.graphql_resolvers.specs.Given.{Inputs, word, word_or_null}
use Rattle.star_wars.specs.declared.data.Character.{Character}
use Rattle.star_wars.specs.declared.data.Droid.{Droid}
use Rattle.star_wars.specs.declared.data.Galaxy.{Galaxy}
use Rattle.star_wars.specs.declared.data.Human.{Human}
use Rattle.star_wars.specs.declared.data.Node.{Node}
use Rattle.star_wars.specs.declared.data.Node.TheVariants as node

abbrev pub type_name : Node → Bytes
type_name node.Query = codes "Query"
type_name (node.Human place) = codes "Human"
type_name (node.Droid place) = codes "Droid"

abbrev pub human_place : List Human → Bytes → Option ℕ
human_place humans id = position (λ h. bytes_eq h.character.id.now id) humans

abbrev pub droid_place : List Droid → Bytes → Option ℕ
droid_place droids id = position (λ d. bytes_eq d.character.id.now id) droids

abbrev pub human_of : Galaxy → Bytes → Option Node
human_of galaxy id = option_map (λ place. node.Human place) (human_place galaxy.humans.now id)

abbrev pub droid_of : Galaxy → Bytes → Option Node
droid_of galaxy id = option_map (λ place. node.Droid place) (droid_place galaxy.droids.now id)

abbrev pub character_of : Galaxy → Bytes → Option Node
character_of galaxy id = option_or (human_of galaxy id) (droid_of galaxy id)

abbrev pub hero_of : Galaxy → Option Bytes → Node
hero_of galaxy (Some episode) =
    if bytes_eq episode (codes "EMPIRE") then node.Human 0 else galaxy.hero
hero_of galaxy None = galaxy.hero

abbrev pub friend : Galaxy → Bor Bytes → Answer Node
friend galaxy id = answers.node_or_null (character_of galaxy id.now)

abbrev pub of_query : Galaxy → Bytes → Inputs → Answer Node
of_query galaxy field given =
    if bytes_eq field (codes "hero")
    then (word_or_null given (codes "episode")
    >>= (λ episode. answers.node (hero_of galaxy episode))) else
    if bytes_eq field (codes "human")
    then (word given (codes "id") >>= (λ id. answers.node_or_null (human_of galaxy id))) else
    if bytes_eq field (codes "droid")
    then (word given (codes "id") >>= (λ id. answers.node_or_null (droid_of galaxy id)))
    else answers.null

abbrev pub of_character : Galaxy → Character → Bytes → Answer Node
of_character galaxy c field =
    if bytes_eq field (codes "id") then answers.text c.id.now else
    if bytes_eq field (codes "name") then answers.text c.name.now else
    if bytes_eq field (codes "friends") then answers.each (friend galaxy) c.friends.now else
    if bytes_eq field (codes "appearsIn") then answers.texts (map (λ e. e.now) c.appears_in.now)
    else
    if bytes_eq field (codes "secretBackstory")
    then answers.fails (codes "secretBackstory is secret.") else answers.null

abbrev pub of_human : Galaxy → Human → Bytes → Answer Node
of_human galaxy h field =
    if bytes_eq field (codes "homePlanet")
    then answers.text_or_null (option_map (λ p. p.now) h.home_planet)
    else of_character galaxy h.character field

abbrev pub of_droid : Galaxy → Droid → Bytes → Answer Node
of_droid galaxy d field =
    if bytes_eq field (codes "primaryFunction")
    then answers.text d.primary_function.now else of_character galaxy d.character field

abbrev pub answer : Galaxy → Node → Bytes → Inputs → Answer Node
answer galaxy node.Query field given = of_query galaxy field given
answer galaxy (node.Human place) field given =
    option_map_or (λ h. of_human galaxy h field) (slice_get galaxy.humans.now place) answers.null
answer galaxy (node.Droid place) field given =
    option_map_or (λ d. of_droid galaxy d field) (slice_get galaxy.droids.now place) answers.null

-- ---- mutations

abbrev pub answer_of : Option Node → Answer Node
answer_of (Some hero) = answers.node hero
answer_of None = answers.fails (codes "no character has this id")

abbrev pub after_of : Galaxy → Option Node → Galaxy
after_of galaxy (Some hero) = record galaxy { hero = hero }
after_of galaxy None = galaxy

abbrev pub change_answer : Galaxy → Bytes → Inputs → Answer Node
change_answer galaxy field given =
    if bytes_eq field (codes "chooseHero")
    then (word given (codes "id") >>= (λ id. answer_of (character_of galaxy id))) else answers.null

abbrev pub change_after : Galaxy → Bytes → Inputs → Galaxy
change_after galaxy field given =
    if bytes_eq field (codes "chooseHero")
    then option_map_or (λ id. after_of galaxy (character_of galaxy id))
    (result_ok (word given (codes "id"))) galaxy
    else galaxy
