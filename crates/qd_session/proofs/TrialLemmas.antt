-- The rule with a statement of its own keeps the laws of rules.
use Rattle.std.proofs.Common.{inl, inr}
use Rattle.qd_session.specs.Legal.{IsLasting}
use Rattle.qd_session.specs.Trials.{AllowedOrPing}
use Rattle.qd_session.proofs.RuleLemmas.{allowed-lasts}

pub ping-lasts : IsLasting AllowedOrPing
ping-lasts old new before now time asked given e seen (inl a) = inl (allowed-lasts old new before now time asked given e seen a)
ping-lasts old new before now time asked given e seen (inr p) = inr p
