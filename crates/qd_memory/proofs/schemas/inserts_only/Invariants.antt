use Rattle.std.proofs.Common.{◌≡◌, List, fold, take}
use Rattle.qd_base.specs.declared.schema.Schema.{Schema}
use Rattle.qd_base.specs.Schemas.{schemas_step}
use Rattle.qd_memory.proofs.schemas.inserts_only.Given as goal

-- the changes so far change no schema
abbrev pub invariant-loop-op : goal.invariant-loop-op
invariant-loop-op l = (schemas : List Schema) → fold schemas_step schemas (take l.op-index l.ops) ≡ schemas
