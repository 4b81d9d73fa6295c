-- Lawful histories, with one transaction more.
use Rattle.std.proofs.Common.{◌≡◌, List, [], ◌∷◌, ◌++◌, fold, refl, subst}
use Rattle.qd_base.specs.declared.op.Entry.{Entry}
use Rattle.qd_base.specs.declared.schema.Schema.{Schema}
use Rattle.qd_base.specs.Schemas.{schemas_from, schemas_step}
use Rattle.qd_base.specs.Lawful.{Lawful, LawfulFrom}
use Rattle.qd_sequencer.specs.Histories.{IsLawfulOver}

lawful_more : (schemas : List Schema) (h : List Entry) (e : Entry) → LawfulFrom schemas h → IsLawfulOver (schemas_from schemas h) e → LawfulFrom schemas (h ++ e ∷ [])
lawful_more schemas [] e lawful next = (next.changes, next.cells, next.alone, tt)
lawful_more schemas (x ∷ h) e lawful next = (lawful.0, lawful.1, lawful.2, lawful_more (fold schemas_step schemas x.ops) h e lawful.3 next)

pub schemas_more : (schemas : List Schema) (h : List Entry) (e : Entry) → schemas_from schemas (h ++ e ∷ []) ≡ fold schemas_step (schemas_from schemas h) e.ops
schemas_more schemas [] e = refl
schemas_more schemas (x ∷ h) e = schemas_more (fold schemas_step schemas x.ops) h e

pub lawful_next : (schemas : List Schema) (h : List Entry) (e : Entry) → Lawful h → schemas ≡ schemas_from [] h → IsLawfulOver schemas e → Lawful (h ++ e ∷ [])
lawful_next schemas h e lawful is next = lawful_more [] h e lawful (subst (λ (s : List Schema). IsLawfulOver s e) is next)
