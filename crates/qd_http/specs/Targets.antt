-- What a method and a target ask. A target is a path, and behind `?` a query: pairs as web forms write them.
use Rattle.std.specs.Prelude.{ℕ, ◌||◌, List, [], ◌∷◌, codes, if◌then◌else◌, Option, Some, None}
use Rattle.std.specs.Str.{bytes_eq}
use Rattle.std.specs.Str.Lossy.{utf8_lossy}
use Rattle.form_urlencoded.specs.Form.{decode, raw_pairs, split_once}
use Rattle.qd_http.specs.declared.wanted.Refusal.TheVariants as refusal
use Rattle.qd_http.specs.declared.wanted.Wanted.{Wanted}
use Rattle.qd_http.specs.declared.wanted.Wanted.TheVariants as wanted

abbrev pub path_of : List ℕ → List ℕ
path_of target = (split_once 63 target).0

abbrev pub query_of : List ℕ → List ℕ
query_of target = (split_once 63 target).1

-- the text that a name or a value of a query stands for; bytes that aren't UTF-8 become U+FFFD
abbrev pub text_of : List ℕ → List ℕ
text_of bytes = utf8_lossy (decode bytes)

-- the value of the first pair of a name
abbrev pub first_in : List ℕ → List (List ℕ × List ℕ) → Option (List ℕ)
first_in name [] = None
first_in name (pair ∷ pairs) = if bytes_eq (text_of pair.0) name then Some (text_of pair.1) else first_in name pairs

abbrev pub first_named : List ℕ → List ℕ → Option (List ℕ)
first_named name query = first_in name (raw_pairs query)

-- a batch of lines has its times in nanoseconds, and a pair may say so
abbrev pub write_with : Option (List ℕ) → Wanted
write_with None = wanted.Write
write_with (Some unit) = if bytes_eq unit (codes "n") || bytes_eq unit (codes "ns") then wanted.Write else wanted.Refused refusal.Query

abbrev pub statement_with : Option (List ℕ) → Wanted
statement_with None = wanted.Refused refusal.Query
statement_with (Some text) = wanted.Statement text

-- what this method asks of something that another method may ask
abbrev pub by : List ℕ → List ℕ → Wanted → Wanted
by wants method asked = if bytes_eq method wants then asked else wanted.Refused refusal.Method

-- what is asked: the path comes first, then the method, then the query
abbrev pub wanted_of : (method target : List ℕ) → Wanted
wanted_of method target =
    if bytes_eq (path_of target) (codes "/write") then by (codes "POST") method (write_with (first_named (codes "precision") (query_of target)))
    else (if bytes_eq (path_of target) (codes "/exec") then by (codes "GET") method (statement_with (first_named (codes "query") (query_of target)))
    else (if bytes_eq (path_of target) (codes "/apply") then by (codes "POST") method wanted.Apply
    else wanted.Refused refusal.Path))
