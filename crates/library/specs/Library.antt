-- What the library answers.
use Rattle.std.specs.Prelude.{ℕ, ℤ, pos, Bool, true, List, [], ◌∷◌, Option, Some, None, codes, map}
use Rattle.std.specs.Prelude.{option_map, int_le, position, slice_get, unwrap_or, if◌then◌else◌}
use Rattle.std.specs.Prelude.{◌&&◌, ◌==◌}
use Rattle.std.specs.Borrow.{Bor}
use Rattle.std.specs.Option.{option_map_or, option_or}
use Rattle.std.specs.Result.{result_ok}
use Rattle.std.specs.Str.{bytes_eq}
use Rattle.std.specs.declared.alloc.Global.{Global}
use Rattle.std.specs.declared.vec.Vec.{Vec}
use Rattle.graphql_resolvers.specs.Answers as answers
use Rattle.graphql_resolvers.specs.Answers.{Answer, Bytes, ◌>>=◌}
use Rattle.graphql_resolvers.specs.Given.{Inputs, count_or_null, id, id_or_null, ids, int_or_null}
use Rattle.graphql_resolvers.specs.Given.{is_among, part, part_or_null, word, words_or_null}
use Rattle.library.specs.declared.data.Author.{Author}
use Rattle.library.specs.declared.data.Book.{Book}
use Rattle.library.specs.declared.data.Library.{Library}
use Rattle.library.specs.declared.data.Magazine.{Magazine}
use Rattle.library.specs.declared.data.Node.{Node}
use Rattle.library.specs.declared.data.Node.TheVariants as node

abbrev pub type_name : Node → Bytes
type_name node.Query = codes "Query"
type_name (node.Book place) = codes "Book"
type_name (node.Magazine place) = codes "Magazine"
type_name (node.Author place) = codes "Author"

-- ---- by ids and names

abbrev pub book_place : List Book → Bytes → Option ℕ
book_place books id = position (λ b. bytes_eq b.id.now id) books

abbrev pub title_place : List Book → Bytes → Option ℕ
title_place books title = position (λ b. bytes_eq b.title.now title) books

abbrev pub magazine_place : List Magazine → Bytes → Option ℕ
magazine_place magazines id = position (λ m. bytes_eq m.id.now id) magazines

abbrev pub author_place : List Author → Bytes → Option ℕ
author_place authors name = position (λ a. bytes_eq a.name.now name) authors

abbrev pub book_of : Library → Bytes → Option Node
book_of library id = option_map (λ place. node.Book place) (book_place library.books.now id)

abbrev pub book_titled : Library → Bytes → Option Node
book_titled library title =
    option_map (λ place. node.Book place) (title_place library.books.now title)

abbrev pub magazine_of : Library → Bytes → Option Node
magazine_of library id =
    option_map (λ place. node.Magazine place) (magazine_place library.magazines.now id)

abbrev pub work_of : Library → Bytes → Option Node
work_of library id = option_or (book_of library id) (magazine_of library id)

abbrev pub work : Library → Bytes → Answer Node
work library id = answers.node_or_null (work_of library id)

-- the book of this id, or where none is given, of the title that is given
abbrev pub of_id_or_title : Library → Option Bytes → Inputs → Answer Node
of_id_or_title library (Some id) by = answers.node_or_null (book_of library id)
of_id_or_title library None by =
    word by (codes "title") >>= (λ title. answers.node_or_null (book_titled library title))

-- by an id or a title, of which exactly one is given
abbrev pub book : Library → Inputs → Answer Node
book library by = id_or_null by (codes "id") >>= (λ id. of_id_or_title library id by)

-- ---- by filters

abbrev pub genres_told : Option (Vec (Bor Bytes) Global) → Option (List Bytes)
genres_told genres = option_map (λ words. map (λ word. word.now) words.items) genres

abbrev pub has_genre : Option (List Bytes) → Bytes → Bool
has_genre None genre = true
has_genre (Some genres) genre = is_among genre genres

abbrev pub book_in : Option (List Bytes) → ℤ → ℤ → ℕ → Book → Option Node
book_in genres from to place book =
    if has_genre genres book.genre.now && int_le from book.year && int_le book.year to
    then Some (node.Book place) else None

abbrev pub books_of : Library → Option (List Bytes) → ℤ → ℤ → Answer Node
books_of library genres from to = answers.nodes_where (book_in genres from to) library.books.now

abbrev pub from_to : Library → Option (List Bytes) → Option ℤ → Option ℤ → Answer Node
from_to library genres from to =
    books_of library genres (unwrap_or from (pos 0)) (unwrap_or to (pos 9999))

abbrev pub in_years : Library → Option (List Bytes) → Option Inputs → Answer Node
in_years library genres None = from_to library genres None None
in_years library genres (Some years) =
    int_or_null years (codes "from") >>= (λ from.
    int_or_null years (codes "to") >>= (λ to. from_to library genres from to))

abbrev pub filtered : Library → Option Inputs → Answer Node
filtered library None = from_to library None None None
filtered library (Some filter) =
    words_or_null filter (codes "genres") >>= (λ genres.
    part_or_null filter (codes "years") >>= (λ years. in_years library genres years))

abbrev pub page : Answer Node → Inputs → Answer Node
page found given =
    answers.first (count_or_null given (codes "first"))
    (answers.skip (count_or_null given (codes "skip")) found)

abbrev pub books : Library → Option Inputs → Inputs → Answer Node
books library filter given = page (filtered library filter) given

-- ---- by lists and words

abbrev pub has_title : Bytes → ℕ → Book → Option Node
has_title title place book = if bytes_eq book.title.now title then Some (node.Book place) else None

abbrev pub titled : Library → Bytes → Answer Node
titled library title = answers.nodes_where (has_title title) library.books.now

abbrev pub find_from : Library → Bytes → Option ℕ → Answer Node
find_from library words (Some place) = answers.nodes (node.Author place ∷ [])
find_from library words None = titled library words

abbrev pub find : Library → Bytes → Answer Node
find library words = find_from library words (author_place library.authors.now words)

abbrev pub picked : Library → Answer Node
picked library = answers.node_or_null (option_map (λ place. node.Book place) library.picked)

-- ---- field by field

abbrev pub of_query : Library → Bytes → Inputs → Answer Node
of_query library field given =
    if bytes_eq field (codes "book") then (part given (codes "by") >>= (λ by. book library by)) else
    if bytes_eq field (codes "picked") then picked library else
    if bytes_eq field (codes "books")
    then (part_or_null given (codes "filter") >>= (λ filter. books library filter given)) else
    if bytes_eq field (codes "works")
    then (ids given (codes "ids") >>= (λ found. answers.each (work library) found)) else
    if bytes_eq field (codes "find")
    then (word given (codes "words") >>= (λ words. find library words)) else answers.null

abbrev pub of_book : Book → Bytes → Answer Node
of_book b field =
    if bytes_eq field (codes "id") then answers.text b.id.now else
    if bytes_eq field (codes "title") then answers.text b.title.now else
    if bytes_eq field (codes "year") then answers.int b.year else
    if bytes_eq field (codes "genre") then answers.text b.genre.now else
    if bytes_eq field (codes "author") then answers.node (node.Author b.author) else answers.null

abbrev pub of_magazine : Magazine → Bytes → Answer Node
of_magazine m field =
    if bytes_eq field (codes "id") then answers.text m.id.now else
    if bytes_eq field (codes "title") then answers.text m.title.now else
    if bytes_eq field (codes "year") then answers.int m.year else
    if bytes_eq field (codes "issue") then answers.int m.issue else answers.null

abbrev pub book_by : ℕ → ℕ → Book → Option Node
book_by author place book = if book.author == author then Some (node.Book place) else None

abbrev pub books_by : Library → ℕ → Answer Node
books_by library author = answers.nodes_where (book_by author) library.books.now

abbrev pub of_author : Library → ℕ → Author → Bytes → Inputs → Answer Node
of_author library place a field given =
    if bytes_eq field (codes "id") then answers.text a.id.now else
    if bytes_eq field (codes "name") then answers.text a.name.now else
    if bytes_eq field (codes "books") then page (books_by library place) given else answers.null

abbrev pub answer : Library → Node → Bytes → Inputs → Answer Node
answer library node.Query field given = of_query library field given
answer library (node.Book place) field given =
    option_map_or (λ b. of_book b field) (slice_get library.books.now place) answers.null
answer library (node.Magazine place) field given =
    option_map_or (λ m. of_magazine m field) (slice_get library.magazines.now place) answers.null
answer library (node.Author place) field given =
    option_map_or (λ a. of_author library place a field given) (slice_get library.authors.now place)
    answers.null

-- ---- mutations

abbrev pub answer_of : Option ℕ → Answer Node
answer_of (Some place) = answers.node (node.Book place)
answer_of None =
    answers.fails_with (codes "no book has this id") ((codes "code", codes "NOT_FOUND") ∷ [])

abbrev pub after_of : Library → Option ℕ → Library
after_of library (Some place) = record library { picked = Some place }
after_of library None = library

abbrev pub change_answer : Library → Bytes → Inputs → Answer Node
change_answer library field given =
    if bytes_eq field (codes "pick")
    then (id given (codes "id") >>= (λ found. answer_of (book_place library.books.now found)))
    else answers.null

abbrev pub change_after : Library → Bytes → Inputs → Library
change_after library field given =
    if bytes_eq field (codes "pick")
    then option_map_or (λ found. after_of library (book_place library.books.now found))
    (result_ok (id given (codes "id"))) library
    else library
