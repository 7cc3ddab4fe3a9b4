-- The made script, as a text for each number of keys.
use Rattle.std.specs.Prelude.{ℕ, ◌+◌, ◌*◌, ◌%◌, ◌==◌, List, ◌++◌, if◌then◌else◌, codes}
use Rattle.std.specs.List.{filter, flat_map, range_with_len}
use Rattle.std.specs.Fmt.{decimal}

-- words and a number behind them
abbrev pub numbered : List ℕ → ℕ → List ℕ
numbered words number = words ++ decimal number

-- the transaction that inserts a key's row
abbrev pub insert_text : ℕ → List ℕ
insert_text key = numbered (codes "begin rc\ninsert t1 ") key ++ numbered (codes " c") (2000 + key) ++ numbered (codes ".") (key % 251) ++ codes " x010203\ncommit\n"

-- what the update of a key sets: the second column of an even key, the first one of an odd key
abbrev pub set_text : ℕ → List ℕ
set_text key = if key % 2 == 0 then codes "2=x040506" else (numbered (codes "1=c") (3000 + key % 1000) ++ numbered (codes ".") (key % 251))

-- the transaction that updates it
abbrev pub update_text : ℕ → List ℕ
update_text key = numbered (codes "begin rc\nupdate t1 ") key ++ codes " " ++ set_text key ++ codes "\ncommit\n"

-- the transaction that reads it
abbrev pub read_text : ℕ → List ℕ
read_text key = numbered (codes "begin rr\nget t1 ") key ++ codes "\ncommit\n"

-- the nine lines of a key
abbrev pub key_text : ℕ → List ℕ
key_text key = insert_text key ++ update_text key ++ read_text key

-- the commands of a writer: its keys are those from 1 to n that leave the remainder of its number by 8, ascending
unfoldable pub keys_text : ℕ → ℕ → List ℕ
keys_text session n = flat_map key_text (filter (λ key. key % 8 == session % 8) (range_with_len 1 n))

-- the first so many sessions that write
unfoldable pub sessions_text : ℕ → ℕ → List ℕ
sessions_text n count = flat_map (λ session. codes "session\n" ++ keys_text session n) (range_with_len 1 count)

-- the sessions that vacuum twice, and the one that rewrites
abbrev pub upkeep_text : List ℕ
upkeep_text = codes "session\nvacuum t1 toast\nvacuum t1 toast\n" ++ codes "session\nvacuum t1 main\nvacuum t1 main\n" ++ codes "session\nrewrite t1\n"

-- the turns of the first ten sessions
abbrev pub loop_text : ℕ → List ℕ
loop_text n = numbered (codes "loop ") (4 * n) ++ codes " 1 2 3 4 5 6 7 8 9 10\n"

-- the whole script: a table of an EXTERNAL and a PLAIN column, eight sessions that write, the upkeep, and a loop
abbrev pub made_text : ℕ → List ℕ
made_text n = codes "table e p\n" ++ sessions_text n 8 ++ upkeep_text ++ loop_text n
