use Rattle.std.proofs.Common.{rules, ◌≡◌, [], ◌∷◌, Some}
use Rattle.qd_score.specs.Rule.{first_seat}
use Rattle.qd_score.proofs.Parts.{opens_at}
use Rattle.qd_score.proofs.Sits.{first_sits}
use Rattle.qd_score.proofs.score.Score.start.Goals as goal

pub new-requires : goal.new-requires
new-requires g c =
    let inside : c.push.new.self.items ≡ Some c.args.book ∷ [] = search rules in
    opens_at g.B.Booked.book g.B.Booked.sound g.B.Booked.fixed g.B.Booked.blocks c.args.book c.of-origin.result.value c.requires.opens.0 c.version_n.result c.first_words-words.result c.push.new.self.items c.requires.opens.1 c.requires.small c.first_words-words.ensures c.version_n.ensures inside c.of-origin.ensures

pub returns-in-Ok-clause-seat : goal.returns-in-Ok-clause-seat
returns-in-Ok-clause-seat g c =
    let of : c.in-Ok.seat.table_id ≡ c.in-Ok.table.shared.table_id = search rules in
    let known : c.in-Ok.seat.me.0 ≡ first_seat g.B.Booked.book g.B.Booked.sound g.B.Booked.fixed c.args.book = search rules in
    let slots : c.in-Ok.seat.me.1 ≡ [] = search rules in
    first_sits g.B.Booked.book g.B.Booked.sound g.B.Booked.fixed g.B.Booked.blocks _ _ c.args.book c.requires.opens.0 c.requires.opens.1 of known slots
