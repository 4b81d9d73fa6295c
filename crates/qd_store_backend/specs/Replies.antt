-- What a commit, a question and an apply are answered.
use Rattle.std.specs.Prelude.{◌≡◌, ℕ, Result, Ok, Err, OnOk}
use Rattle.qd_base.specs.Codes.{number_of}
use Rattle.qd_base.specs.declared.code.Code.TheVariants as code
use Rattle.qd_base.specs.declared.request.Reply.{Reply}
use Rattle.qd_base.specs.declared.request.Reply.TheVariants as reply
use Rattle.qd_durable.specs.declared.fault.LogFault.{LogFault}
use Rattle.qd_durable.specs.declared.fault.LogFault.TheVariants as log
use Rattle.qd_query.specs.declared.answer.Answer.{Answer}
use Rattle.qd_query.specs.declared.answer.Answer.TheVariants as answer
use Rattle.qd_scan.specs.declared.fault.PartFault.{PartFault}
use Rattle.qd_scan.specs.declared.fault.PartFault.TheVariants as part
use Rattle.qd_sequencer.specs.declared.fault.CommitFault.{CommitFault}
use Rattle.qd_sequencer.specs.declared.fault.CommitFault.TheVariants as commit
use Rattle.qd_sequencer.specs.declared.fault.Committed.{Committed}

-- the reply to a write
abbrev pub RepliesTo : {E : Type 0} → Result Committed CommitFault → Result Reply E → Type 0
RepliesTo (Ok done) given = given ≡ Ok (reply.Done done.n)
RepliesTo (Err (commit.Refused c place)) given = given ≡ Ok (reply.Refused (number_of c) place)
RepliesTo (Err commit.Full) given = given ≡ Ok (reply.Refused (number_of code.Full) 0)
RepliesTo (Err commit.Vol) given = given ≡ Ok (reply.Refused (number_of code.Volume) 0)
RepliesTo (Err commit.Memory) given = OnOk given ⊥

-- the reply to a statement that asks, over the first n transactions
abbrev pub RepliesOver : {E : Type 0} → ℕ → Result Answer PartFault → Result Reply E → Type 0
RepliesOver n (Ok (answer.Rows table)) given = given ≡ Ok (reply.Rows n table)
RepliesOver n (Ok (answer.Refused number place)) given = given ≡ Ok (reply.QueryRefused n number place)
RepliesOver n (Err part.Vol) given = given ≡ Ok (reply.Refused (number_of code.Volume) 0)
RepliesOver n (Err (part.Damaged file at)) given = given ≡ Ok (reply.Damaged file at)
RepliesOver n (Err part.Memory) given = OnOk given ⊥

-- the reply to an apply
abbrev pub RepliesWith : {E : Type 0} → Result ℕ LogFault → Result Reply E → Type 0
RepliesWith (Ok n) given = given ≡ Ok (reply.Applied n)
RepliesWith (Err log.Vol) given = given ≡ Ok (reply.Refused (number_of code.Volume) 0)
RepliesWith (Err (log.Damaged file at)) given = given ≡ Ok (reply.Damaged file at)
RepliesWith (Err log.Memory) given = OnOk given ⊥
