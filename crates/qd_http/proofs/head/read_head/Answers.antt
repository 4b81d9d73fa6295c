use Rattle.std.proofs.Common.{◌≡◌, ◌/◌, length, ap, ◌∙◌, arith, inl, refl}
use Rattle.qd_http.proofs.HeadLemmas.{never_without, never_too_many}
use Rattle.qd_http.proofs.OrderLemmas.{if_read, parts_of}
use Rattle.qd_http.proofs.head.read_head.Goals as goal

pub returns-in-Ok-Complete : goal.returns-in-Ok-Complete
returns-in-Ok-Complete c =
    let held = rw c.in-Ok-Complete.field-0-is at c.in-Ok-Complete.ensures.complete in
    if_read c.args.bytes.now c.parse.new.self c.in-Ok-Complete.len c.read_order.result c.requires held.0 held.1 (c.read_order.ensures held.0 (parts_of c.args.bytes.now c.parse.new.self c.in-Ok-Complete.len held.0 held.1))

pub returns-in-Ok-Partial : goal.returns-in-Ok-Partial
returns-in-Ok-Partial c = inl (refl, never_without c.args.bytes.now c.requires (rw c.in-Ok-Partial.field-0-is at c.in-Ok-Partial.ensures.partial))

pub returns : goal.returns
returns c =
    let bytes = c.args.bytes.now in
    let room : length c.new-request.result.headers.now ≡ length bytes / 3 = ap length (c.new-request.ensures.room ∙ c.deref_mut.ensures.value) ∙ omega (arith, c.in_ok-fields.fields.ok.0, c.in_ok-fields.ensures.len) in
    inl (refl, never_too_many bytes (length c.new-request.result.headers.now) c.requires (omega arith) c.in-Err.ensures.no_room)
