use Rattle.std.proofs.Common.{refl, subst}
use Rattle.qd_base.specs.declared.request.Request.TheVariants as request
use Rattle.qd_session.specs.Alone.{AllowedAlone}
use Rattle.qd_session.specs.Legal.{Handles}
use Rattle.qd_store_backend.specs.Backs.{Back, GoesOn, back_shown, left_of}
use Rattle.qd_store_backend.specs.Rounds.{number_in}
use Rattle.qd_store_backend.proofs.Applied.{applied_handled, replied_damage, sound_number, vol_number}
use Rattle.qd_store_backend.proofs.Going.{applied_back, applied_goes_on}
use Rattle.qd_store_backend.proofs.back.StoreBackBackend.apply.Goals as goal

pub invariant_of-self : goal.invariant_of-self
invariant_of-self g c =
    let i = c.self.inside in
    let old : Back = record { parts = i.parts; before = i.before; writer = i.writer; left = left_of i.left.history } in
    applied_back old c.show_all-done.new.self (left_of c.left_behind-self-inside.result.history) (number_in c.show_all-done.result) c.self.invariant c.show_all-done.ensures.shows c.show_all-done.ensures.alone c.left_behind-self-inside.ensures.left

pub returns-clause-handled : goal.returns-clause-handled
returns-clause-handled g c =
    let i = c.self.inside in
    let old : Back = record { parts = i.parts; before = i.before; writer = i.writer; left = left_of i.left.history } in
    let new : Back = record { parts = c.show_all-done.new.self; before = i.before; writer = i.writer; left = left_of c.left_behind-self-inside.result.history } in
    let e = c.show_all-done.ensures in
    subst (λ (b : Back). Handles AllowedAlone (back_shown b) (back_shown new) 0 request.Apply c.reply_with.result) c.self.view_is
    (applied_handled old new (number_in c.show_all-done.result) c.reply_with.result refl c.self.invariant e.shows (sound_number c.show_all-done.result e.sound) (vol_number c.show_all-done.result e.vol) e.faults
    c.left_behind-self-inside.ensures.left c.is_told.ensures.told c.left_behind-self-inside.ensures.told e.left c.reply_with.ensures.reply)

pub returns-clause-one_writer : goal.returns-clause-one_writer
returns-clause-one_writer g c =
    let i = c.self.inside in
    let old : Back = record { parts = i.parts; before = i.before; writer = i.writer; left = left_of i.left.history } in
    let new : Back = record { parts = c.show_all-done.new.self; before = i.before; writer = i.writer; left = left_of c.left_behind-self-inside.result.history } in
    subst (λ (b : Back). GoesOn b new) c.self.view_is (applied_goes_on old c.show_all-done.new.self (left_of c.left_behind-self-inside.result.history) (number_in c.show_all-done.result) c.show_all-done.ensures.shows)

pub returns-clause-damaged : goal.returns-clause-damaged
returns-clause-damaged g c file at is = c.show_all-done.ensures.damaged file at (replied_damage c.show_all-done.result c.reply_with.result file at c.reply_with.ensures.reply is)
