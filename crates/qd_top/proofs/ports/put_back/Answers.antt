use Rattle.std.proofs.Common.{◌∙◌, ap}
use Rattle.qd_host.specs.Hosts.{after_volume}
use Rattle.qd_volume.specs.Calls.{Storage}
use Rattle.qd_top.proofs.PortLemmas.{kept_some}
use Rattle.qd_top.proofs.ports.put_back.Goals as goal

pub returns-clause-back : goal.returns-clause-back
returns-clause-back g c = c.put_back.ensures ∙ ap (λ (s : Storage). after_volume s (g.H.Host.supply c.args.host.now)) c.into_volume.ensures.volume

pub returns-clause-kept : goal.returns-clause-kept
returns-clause-kept g c = kept_some c.stores_are_whole.ensures.law c.one_entry_is_read.ensures c.args.store c.keeps_its_law.ensures.versions
