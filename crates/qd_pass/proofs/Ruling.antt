-- The rule of a session over a shared store keeps the laws of rules.
use Rattle.std.proofs.Common.{inl, inr}
use Rattle.qd_session.specs.Legal.{IsLasting}
use Rattle.qd_session.proofs.RuleLemmas.{allowed-lasts}
use Rattle.qd_pass.specs.Shared.{AllowedShared}

pub shared_lasts : IsLasting AllowedShared
shared_lasts old new before now time asked given on few (inl a) = inl (allowed-lasts old new before now time asked given on few a)
shared_lasts old new before now time asked given on few (inr crowded) = inr crowded
