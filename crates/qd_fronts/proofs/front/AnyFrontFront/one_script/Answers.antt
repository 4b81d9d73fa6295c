use Rattle.std.proofs.Common.{◌≡◌, ℕ, List, subst, sym}
use Rattle.qd_base.specs.Script.{Script}
use Rattle.qd_fronts.specs.declared.front.AnyFront.{AnyFront}
use Rattle.qd_fronts.specs.Fronts.{any_protocol}
use Rattle.qd_fronts.proofs.front.AnyFrontFront.one_script.Goals as goal

-- every text is a script of a front
Some : AnyFront → Type 0
Some f = (more : List ℕ) → (s : Script) × (any_protocol f).spells more s

-- and of one
One : AnyFront → Type 0
One f = (more : List ℕ) (s t : Script) → (any_protocol f).spells more s → (any_protocol f).spells more t → s ≡ t

pub returns-in-Frames-clause-some : goal.returns-in-Frames-clause-some
unfolding Some
returns-in-Frames-clause-some c = subst Some (sym c.in-Frames.is) c.one_script.ensures.some

pub returns-in-Frames-clause-one : goal.returns-in-Frames-clause-one
unfolding One
returns-in-Frames-clause-one c = subst One (sym c.in-Frames.is) c.one_script.ensures.one

pub returns-in-Http-clause-some : goal.returns-in-Http-clause-some
unfolding Some
returns-in-Http-clause-some c = subst Some (sym c.in-Http.is) c.one_script-in-Http.ensures.some

pub returns-in-Http-clause-one : goal.returns-in-Http-clause-one
unfolding One
returns-in-Http-clause-one c = subst One (sym c.in-Http.is) c.one_script-in-Http.ensures.one

pub returns-in-Pg-clause-some : goal.returns-in-Pg-clause-some
unfolding Some
returns-in-Pg-clause-some c = subst Some (sym c.in-Pg.is) c.one_script-in-Pg.ensures.some

pub returns-in-Pg-clause-one : goal.returns-in-Pg-clause-one
unfolding One
returns-in-Pg-clause-one c = subst One (sym c.in-Pg.is) c.one_script-in-Pg.ensures.one
