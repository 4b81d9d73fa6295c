-- A history with one transaction more, and one of which all is applied.
use Rattle.std.proofs.Common.{◌≡◌, ℕ, zero, suc, ◌-◌, ◌≤◌, List, [], ◌∷◌, ◌++◌, Some, IfSome, length, take, drop, sym, ap, ◌∙◌, subst, fold, arith, refl}
use Rattle.std.proofs.lemmas.List.{length-drop, length_push, take-append-drop, take-append-le, take_all}
use Rattle.std.proofs.lemmas.List.Sums.{fold-append}
use Rattle.qd_base.specs.declared.limits.TheConstants.{MAX_BATCH_CELLS}
use Rattle.qd_base.specs.declared.schema.Schema.{Schema}
use Rattle.qd_base.specs.declared.op.Entry.{Entry}
use Rattle.qd_base.specs.Schemas.{schemas_from, schemas_step}
use Rattle.qd_base.specs.Database.{Database, schemas_of}
use Rattle.qd_base.specs.Lawful.{AreLawful, Lawful, LawfulFrom, SetsKeysAlone, cells_of}
use Rattle.qd_base.specs.Replay.{after, commit, first, replay}
use Rattle.qd_base.proofs.Tables.{schemas_of-commit, schemas_of-replay}
use Rattle.qd_scan.specs.Sources.{SourceView, Stays, Tells}
use Rattle.qd_memory.specs.Listed.{FitsTogether}

lawful_more : (schemas : List Schema) (history : List Entry) (e : Entry) → LawfulFrom schemas history → AreLawful (schemas_from schemas history) e.ops → cells_of e ≤ MAX_BATCH_CELLS → SetsKeysAlone e.ops → LawfulFrom schemas (history ++ e ∷ [])
lawful_more schemas [] e h lawful few alone = (lawful, few, alone, tt)
lawful_more schemas (d ∷ ds) e h lawful few alone = (h.0, h.1, h.2, lawful_more (fold schemas_step schemas d.ops) ds e h.3 lawful few alone)

-- the front of a lawful history is lawful, and what is behind it is over the schemas that it leaves
pub lawful_front : (schemas : List Schema) (n : ℕ) (history : List Entry) → LawfulFrom schemas history → LawfulFrom schemas (take n history)
lawful_front schemas zero history h = tt
lawful_front schemas (suc n) [] h = tt
lawful_front schemas (suc n) (e ∷ es) h = (h.0, h.1, h.2, lawful_front (fold schemas_step schemas e.ops) n es h.3)

lawful_behind : (schemas : List Schema) (n : ℕ) (history : List Entry) → LawfulFrom schemas history → LawfulFrom (schemas_from schemas (take n history)) (drop n history)
lawful_behind schemas zero history h = h
lawful_behind schemas (suc n) [] h = tt
lawful_behind schemas (suc n) (e ∷ es) h = lawful_behind (fold schemas_step schemas e.ops) n es h.3

schemas_more : (history : List Entry) (e : Entry) → schemas_of (after (history ++ e ∷ [])) ≡ fold schemas_step (schemas_of (after history)) e.ops
schemas_more history e = ap schemas_of (fold-append commit [] history (e ∷ [])) ∙ schemas_of-commit (after history) e.ops

-- what is kept fits together with one transaction more
pub fits_more : (history : List Entry) (applied : ℕ) (schemas now : List Schema) (parts : SourceView) (e : Entry) → FitsTogether history applied schemas parts → AreLawful (schemas_of (after history)) e.ops
    → cells_of e ≤ MAX_BATCH_CELLS → SetsKeysAlone e.ops → now ≡ fold schemas_step schemas e.ops → FitsTogether (history ++ e ∷ []) applied now parts
fits_more history applied schemas now parts e h lawful few alone is = record {
  within = let within : applied ≤ length history = h.within in omega (arith, length_push history e);
  lawful = lawful_more [] history e h.lawful (subst (λ (s : List Schema). AreLawful s e.ops) (schemas_of-replay [] history) lawful) few alone;
  schemas_are = is ∙ ap (λ (s : List Schema). fold schemas_step s e.ops) h.schemas_are ∙ sym (schemas_more history e);
  told = h.told ∙ ap (λ (es : List Entry). Some (after es)) (sym (take-append-le applied history (e ∷ []) h.within));
}

pub fits_kept : (history history' : List Entry) (applied applied' : ℕ) (schemas schemas' : List Schema) (parts parts' : SourceView) → history' ≡ history → applied' ≡ applied → schemas' ≡ schemas → parts' ≡ parts
    → FitsTogether history applied schemas parts → FitsTogether history' applied' schemas' parts'
fits_kept history history' applied applied' schemas schemas' parts parts' h a s p fits = rw (h, a, s, p) fits

-- a call of the parts leaves what they tell
pub fits_still : (history : List Entry) (applied : ℕ) (schemas : List Schema) (parts parts' : SourceView) → Stays parts parts' → FitsTogether history applied schemas parts → FitsTogether history applied schemas parts'
fits_still history applied schemas parts parts' stays h = record { within = h.within; lawful = h.lawful; schemas_are = h.schemas_are; told = stays.database ∙ h.told }

-- what isn't applied is lawful over what the parts show
pub lawful_rest : (history : List Entry) (applied : ℕ) (schemas : List Schema) (parts : SourceView) → FitsTogether history applied schemas parts → IfSome parts.database (Tells parts) → LawfulFrom parts.schemas (drop applied history)
lawful_rest history applied schemas parts h tells =
    let told : Tells parts (first history applied) = subst (λ (o : _). IfSome o (Tells parts)) h.told tells in
    let shown : parts.schemas ≡ schemas_from [] (take applied history) = sym told.schemas ∙ schemas_of-replay [] (take applied history) in
    subst (λ (s : List Schema). LawfulFrom s (drop applied history)) (sym shown) (lawful_behind [] applied history h.lawful)

-- all that is behind the first n
pub rest_all : {A : Type 0} (n : ℕ) (xs : List A) → take (length xs - n) (drop n xs) ≡ drop n xs
rest_all n xs = take_all (length xs - n) (drop n xs) (omega (arith, length-drop n xs))

-- the parts of all that is there
pub fits_applied : (history : List Entry) (applied : ℕ) (schemas : List Schema) (parts parts' : SourceView) → FitsTogether history applied schemas parts
    → ((db : Database) → parts.database ≡ Some db → parts'.database ≡ Some (replay db (drop applied history))) → FitsTogether history (length history) schemas parts'
fits_applied history applied schemas parts parts' h grown = record {
  within = omega arith;
  lawful = h.lawful;
  schemas_are = h.schemas_are;
  told =
      grown (first history applied) h.told ∙ ap Some (sym (fold-append commit [] (take applied history) (drop applied history)) ∙ ap after (take-append-drop applied history ∙ sym (take_all (length history) history (omega arith))));
}
