use Rattle.std.proofs.Common.{◌⊎◌, inl, inr, [], ◌∷◌, refl}
use Rattle.qd_base.specs.declared.op.Entry.{Entry}
use Rattle.qd_base.specs.Schemas.{schemas_from}
use Rattle.qd_recovery.specs.Calls.{Asked, Says}
use Rattle.qd_recovery.proofs.laws.worked_examples.Goals as goal

last_one : (c : Asked) (x y e : Entry) → ⊥ ⊎ Says (schemas_from [] (x ∷ y ∷ [])) c e → Says (schemas_from [] (x ∷ y ∷ [])) c e
last_one c x y e (inl none) = absurd none
last_one c x y e (inr says) = says

pub returns : goal.returns
returns c = record {
  law = record {
    two = λ a b c done x y. refl;
    one_left = λ a b c done x y e. last_one c x y e;
    none_left = λ a b c done x y e none. none;
  };
}
