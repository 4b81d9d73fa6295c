-- A set of names that were met.
use Rattle.std.specs.Prelude.{◌≡◌, ℕ, Bool, List, Vec, map}
use Rattle.std.specs.BTreeSet.{contains}
use Rattle.std.specs.Cmp.Lexicographic.{slice_cmp}
use Rattle.std.specs.List.{list_any}
use Rattle.std.specs.Ordering.{nat_cmp}
use Rattle.std.specs.Str.{bytes_eq, str_to_ascii_lowercase}
use Rattle.std.specs.declared.alloc.Global.{Global}
use Rattle.std.specs.declared.cmp.Ordering.{Ordering}
use Rattle.qd_sql_ast.specs.declared.tree.Name.{Name}
use Rattle.qd_sql_ast.specs.declared.tree.ColumnDef.{ColumnDef}
use Rattle.qd_writes.specs.declared.met.NameSet.{NameSet}

-- the order of the keys: byte by byte
abbrev pub key_cmp : Vec ℕ Global → Vec ℕ Global → Ordering
key_cmp a b = slice_cmp nat_cmp a.items b.items

-- whether a key is one of the names in lower case
abbrev pub is_met : List Name → List ℕ → Bool
is_met names key = list_any (λ (n : Name). bytes_eq (str_to_ascii_lowercase n.text) key) names

-- the set has exactly these names, in lower case
abbrev pub HasMet : List Name → NameSet → Type 0
HasMet names met = (key : Vec ℕ Global) → contains key_cmp met.lowered key ≡ is_met names key.items

-- the names of the columns of a CREATE
abbrev pub names_of : List ColumnDef → List Name
names_of columns = map (λ (d : ColumnDef). d.name) columns
