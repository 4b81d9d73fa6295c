-- A connection is turned away.
use Rattle.std.proofs.Common.{◌≡◌, ◌∙◌, ℕ, List, [], ◌++◌, Option, Some, None, Result, Ok, Err, refl, sym, ap, subst, append-nil}
use Rattle.std.specs.Prelude.{take, drop}
use Rattle.std.proofs.lemmas.List.{take-append-drop}
use Rattle.qd_fronts.specs.declared.front.FrontKind.{FrontKind}
use Rattle.qd_io.specs.declared.fault.IoFault.{IoFault}
use Rattle.qd_io.specs.Ends.{InputStays, Stream, WritesAll}
use Rattle.qd_session.specs.Session.{PutTo}
use Rattle.qd_connections.specs.Connections.{IsTurnedAway, no_worker}

put_whole : (was now : Option (List ℕ)) (line : List ℕ) → WritesAll {T = Unit {0}} {E = IoFault} was now line (Ok tt) → PutTo was now line
put_whole None now line h = tt
put_whole (Some was) now line h = h

put_some : (was now : Option (List ℕ)) (line : List ℕ) (f : IoFault) → WritesAll {T = Unit {0}} {E = IoFault} was now line (Err f) → (written missing : List ℕ) × PutTo was now written × (line ≡ written ++ missing)
put_some None now line f h = (line, [], tt, sym (append-nil line))
put_some (Some was) now line f h = (take h.0 line, drop h.0 line, h.2, sym (take-append-drop h.0 line))

put_none : (output : Option (List ℕ)) → PutTo output output []
put_none None = tt
put_none (Some bytes) = ap (λ (l : List ℕ). Some l) (sym (append-nil bytes))

-- there was no memory for the refusal
pub unsaid : (kind : FrontKind) → (wire : Stream) → IsTurnedAway kind wire wire
unsaid kind wire = record { unread = refl; written = []; missing = no_worker kind; put = put_none wire.output; refusal = refl }

said : (kind : FrontKind) → (before after : Stream) (line : List ℕ) → line ≡ no_worker kind → WritesAll {T = Unit {0}} {E = IoFault} before.output after.output line (Ok tt) → InputStays before after → IsTurnedAway kind before after
said kind before after line is told rest = record {
  unread = rest.input;
  written = line;
  missing = [];
  put = put_whole before.output after.output line told;
  refusal = sym is ∙ sym (append-nil line);
}

said_in_part : (kind : FrontKind) → (before after : Stream) (line : List ℕ) (f : IoFault) → line ≡ no_worker kind → WritesAll {T = Unit {0}} {E = IoFault} before.output after.output line (Err f) → InputStays before after → IsTurnedAway kind before after
said_in_part kind before after line f is told rest =
    let p = put_some before.output after.output line f told in
    record { unread = rest.input; written = p.0; missing = p.1; put = p.2; refusal = sym is ∙ p.3 }

pub said_as : (kind : FrontKind) → (before after : Stream) (line : List ℕ) (result : Result (Unit {0}) IoFault) → line ≡ no_worker kind → WritesAll before.output after.output line result → InputStays before after → IsTurnedAway kind before after
said_as kind before after line (Ok done) is told rest = said kind before after line is told rest
said_as kind before after line (Err f) is told rest = said_in_part kind before after line f is told rest
