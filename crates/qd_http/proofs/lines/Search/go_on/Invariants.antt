use Rattle.std.proofs.Common.{◌≡◌, ◌≢◌, take}
use Rattle.qd_http.specs.declared.lines.Lines.TheVariants as lines
use Rattle.qd_http.specs.Reading.{lines_of}
use Rattle.qd_http.proofs.lines.Search.go_on.Given as goal

-- the bytes so far have been read, and the head does not end in them
abbrev pub invariant-loop-i : goal.invariant-loop-i
invariant-loop-i l = record {
  state : l.lines ≡ lines_of (take l.i l.bytes);
  open_ : l.lines ≢ lines.Done;
}
