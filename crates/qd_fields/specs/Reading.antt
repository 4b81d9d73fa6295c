-- What the functions that read say of their answers.
use Rattle.std.specs.Prelude.{◌≡◌, ℕ, Result, Ok, Err}
use Rattle.qd_fields.specs.declared.stop.Stop.{Stop}
use Rattle.qd_fields.specs.declared.stop.Stop.TheVariants as stop

-- A function gives, seen by view, what is read, unless memory was wanting.
abbrev pub Fails : {Y : Type 0} → Stop → Result Y ℕ → Type 0
Fails stop.Memory read = Unit {0}
Fails (stop.Damage left) read = read ≡ Err left

abbrev pub Gives : {X Y : Type 0} → (X → Y) → Result X Stop → Result Y ℕ → Type 0
Gives view (Ok x) read = read ≡ Ok (view x)
Gives view (Err e) read = Fails e read
