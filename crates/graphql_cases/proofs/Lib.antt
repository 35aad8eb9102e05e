mod CheckedLemmas
