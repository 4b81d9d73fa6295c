-- What the functions that write say of what they add.
use Rattle.std.specs.Prelude.{◌≡◌, ℕ, ◌^◌, ◌<◌, ◌≤◌, List, ◌++◌, length, All}
use Rattle.qd_base.specs.declared.limits.TheConstants.{MAX_TEXT_BYTES}
use Rattle.qd_wal_entry.specs.Spelling.{with_texts}

-- An entry that is written: its texts so far, and the bytes of its changes so far.
pub record Draft : Type 0 where
  pub texts : List (List ℕ)
  pub body : List ℕ

-- Something with texts is added. Its bytes stay what they are, whatever texts come behind those so far.
pub record Adds {A : Type 0} (texts_of : A → List (List ℕ)) (spell : List (List ℕ) → A → List ℕ) (old new : Draft) (x : A) : Type 0 where
  pub texts : new.texts ≡ with_texts old.texts (texts_of x)
  pub bytes : (more : List (List ℕ)) → new.body ≡ old.body ++ spell (new.texts ++ more) x

-- each text is short enough to be stored
abbrev pub AreShort : List (List ℕ) → Type 0
AreShort texts = All (λ t. length t ≤ MAX_TEXT_BYTES) texts

-- the texts fit their number
abbrev pub FewWith : {A : Type 0} → (A → List (List ℕ)) → Draft → A → Type 0
FewWith texts_of old x = length (with_texts old.texts (texts_of x)) < 2 ^ 32
