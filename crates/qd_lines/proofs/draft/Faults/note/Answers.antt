use Rattle.std.proofs.Common.{◌||◌, not, refl}
use Rattle.qd_ilp.specs.View.{item_of}
use Rattle.qd_lines.proofs.DraftLemmas.{named}
use Rattle.qd_lines.proofs.draft.Faults.note.Goals as goal

pub returns-clause-names : goal.returns-clause-names
returns-clause-names c items h = named items (item_of c.args.item) c.args.self.now.name c.args.fair (c.args.self.now.name || not c.args.fair) c.requires.fair.0 c.requires.fair.1 refl h
