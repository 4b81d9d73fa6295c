-- A hold whose book was written through.
use Rattle.qd_score.specs.declared.score.Hold.{Hold}

abbrev pub with_book : {B : Type 0} → Hold B → B → Hold B
with_book hold book = record { book = book }
