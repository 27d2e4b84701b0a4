-- Statements that an operator may answer for, by their first two words: each is between blanks, so no comment is before or within them.
use Rattle.std.specs.Prelude.{ℕ, ◌&&◌, ◌||◌, Bool, List, take, drop, codes}
use Rattle.std.specs.Char.{is_ascii_whitespace}
use Rattle.std.specs.List.{prefix_len, position_or_len}
use Rattle.std.specs.Str.{str_eq_ignore_ascii_case}

-- a text without the blanks at its front
abbrev pub from_word : List ℕ → List ℕ
from_word text = drop (prefix_len is_ascii_whitespace text) text

-- its bytes before the first blank, and those from there on
abbrev pub word_of : List ℕ → List ℕ
word_of text = take (position_or_len is_ascii_whitespace text) text

abbrev pub behind_word : List ℕ → List ℕ
behind_word text = drop (position_or_len is_ascii_whitespace text) text

-- what makes things, gives and takes rights, sets and maintains
abbrev pub may_begin : List ℕ → Bool
may_begin word =
    str_eq_ignore_ascii_case word (codes "CREATE")
    || (str_eq_ignore_ascii_case word (codes "GRANT")
    || (str_eq_ignore_ascii_case word (codes "REVOKE")
    || (str_eq_ignore_ascii_case word (codes "SET")
    || (str_eq_ignore_ascii_case word (codes "ANALYZE")
    || (str_eq_ignore_ascii_case word (codes "OPTIMIZE")
    || (str_eq_ignore_ascii_case word (codes "REPAIR")
    || (str_eq_ignore_ascii_case word (codes "CHECK")
    || str_eq_ignore_ascii_case word (codes "FLUSH"))))))))

-- what changes things or takes them away
abbrev pub alters : List ℕ → Bool
alters word =
    str_eq_ignore_ascii_case word (codes "DROP")
    || (str_eq_ignore_ascii_case word (codes "ALTER")
    || str_eq_ignore_ascii_case word (codes "RENAME"))

-- things that hold no rows
abbrev pub holds_no_rows : List ℕ → Bool
holds_no_rows word =
    str_eq_ignore_ascii_case word (codes "USER")
    || (str_eq_ignore_ascii_case word (codes "ROLE")
    || (str_eq_ignore_ascii_case word (codes "VIEW")
    || (str_eq_ignore_ascii_case word (codes "FUNCTION")
    || (str_eq_ignore_ascii_case word (codes "PROCEDURE")
    || (str_eq_ignore_ascii_case word (codes "TRIGGER")
    || str_eq_ignore_ascii_case word (codes "EVENT"))))))

abbrev pub may_be_accepted_from : List ℕ → Bool
may_be_accepted_from text =
    may_begin (word_of text) || (alters (word_of text) && holds_no_rows (word_of (from_word (behind_word text))))

-- the statement begins with one of the first words, or alters what holds no rows: no table, index or database
unfoldable pub may_be_accepted : List ℕ → Bool
may_be_accepted text = may_be_accepted_from (from_word text)
