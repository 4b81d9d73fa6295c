use Rattle.qd_column_format.proofs.DictionaryLemmas.{AreLoaded}
use Rattle.qd_column_format.proofs.dictionary.load.Given as goal

-- the texts so far are those that the bytes begin with
abbrev pub invariant-loop-id : goal.invariant-loop-id
invariant-loop-id g l = AreLoaded (g.D.Dictionary.texts l.dictionary) l.bytes l.id l.at
