-- The words of the kinds of events. The numbers are MySQL's. The words are our own, after the names that mysqlbinlog prints.
use Rattle.std.specs.Prelude.{ℕ, ◌==◌, nat_lt, List, [], ◌++◌, length, codes, decimal, if◌then◌else◌}

-- kinds up to 18
unfoldable pub early_word : ℕ → List ℕ
early_word kind =
    if kind == 2 then codes "query"
    else if kind == 3 then codes "stop"
    else if kind == 4 then codes "rotate"
    else if kind == 5 then codes "intvar"
    else if kind == 13 then codes "rand"
    else if kind == 14 then codes "user-var"
    else if kind == 15 then codes "format"
    else if kind == 16 then codes "xid"
    else if kind == 17 then codes "begin-load-query"
    else if kind == 18 then codes "execute-load-query"
    else []

-- kinds from 19 to 29
unfoldable pub middle_word : ℕ → List ℕ
middle_word kind =
    if kind == 19 then codes "table-map"
    else if kind == 20 then codes "old-write-rows"
    else if kind == 21 then codes "old-update-rows"
    else if kind == 22 then codes "old-delete-rows"
    else if kind == 23 then codes "write-rows-v1"
    else if kind == 24 then codes "update-rows-v1"
    else if kind == 25 then codes "delete-rows-v1"
    else if kind == 26 then codes "incident"
    else if kind == 27 then codes "heartbeat"
    else if kind == 28 then codes "ignorable"
    else if kind == 29 then codes "rows-query"
    else []

-- kinds from 30 on
unfoldable pub late_word : ℕ → List ℕ
late_word kind =
    if kind == 30 then codes "write-rows"
    else if kind == 31 then codes "update-rows"
    else if kind == 32 then codes "delete-rows"
    else if kind == 33 then codes "gtid"
    else if kind == 34 then codes "anonymous-gtid"
    else if kind == 35 then codes "previous-gtids"
    else if kind == 36 then codes "transaction-context"
    else if kind == 37 then codes "view-change"
    else if kind == 38 then codes "xa-prepare"
    else if kind == 39 then codes "partial-update-rows"
    else if kind == 40 then codes "transaction-payload"
    else if kind == 41 then codes "heartbeat-v2"
    else if kind == 42 then codes "tagged-gtid"
    else []

-- the word of a kind, where it has one
abbrev pub kind_word : ℕ → List ℕ
kind_word kind = if nat_lt kind 19 then early_word kind else if nat_lt kind 30 then middle_word kind else late_word kind

-- a kind without a word is named by its number
abbrev pub word_or_number : List ℕ → ℕ → List ℕ
word_or_number word kind = if length word == 0 then codes "kind-" ++ decimal kind else word

abbrev pub kind_text : ℕ → List ℕ
kind_text kind = word_or_number (kind_word kind) kind
