use Rattle.std.proofs.Common.{◌≡◌, ◌↔◌, ℕ, List, ◌∷◌, codes, drop, map, rules, Some, ap, ap₂, subst, sym, ◌∙◌}
use denote.Enum.Bare.{same_false}
use Rattle.clap.specs.contracts.error.kind.ErrorKind.{the_type}
use Rattle.clap.specs.declared.error.kind.ErrorKind.TheVariants as kind
use Rattle.clap.specs.Simple.{app_of, is_simple, matches_of, with_rule}
use Rattle.clap.specs.Takes.{takes}
use Rattle.clap.specs.Walk.{all_of, rows_of}
use Rattle.clap.specs.Matches.{found_of}
use Rattle.clap.proofs.WalkLemmas.{raw_values-rows}
use Rattle.qd_args.specs.declared.command.Command.{Command}
use Rattle.qd_args.specs.Words.{AsksWith}
use Rattle.qd_args.proofs.Parting.{found_is, found_nothing, found_some, line, line_is_simple, rule_is, takes_words, texts_none, texts_some}
use Rattle.qd_args.proofs.Lines.{few_words, no_words}
use Rattle.qd_args.proofs.reading.read_texts.Goals as goal

pub returns-in-Some : goal.returns-in-Some
returns-in-Some c =
    let rule = rule_is c.new.result c.num_args-words.result c.new.ensures.rule c.num_args-words.ensures.0 c.num_args-words.ensures.1 in
    let app : app_of c.in_ok-line.line ≡ line = c.in_ok-line.ensures.shape (search rules) ∙ ap₂ with_rule c.new-2.ensures.app rule in
    let given = c.requires in
    let rows : rows_of (found_of c.in-Ok.matches) ≡ matches_of line (codes "tsdb" ∷ given.0) =
    (c.in-Ok.ensures.matches (ap is_simple app ∙ line_is_simple)).0 ∙ ap₂ matches_of app given.1 in
    let texts = texts_some c.get_strs.result c.in-Some.words _ c.in-Some.is c.get_strs.ensures in
    let same : map (λ w. w.now) c.in-Some.words.now ≡ given.0 =
    found_some given.0 (map (λ w. w.now) c.in-Some.words.now) (texts ∙ raw_values-rows (found_of c.in-Ok.matches) (codes "words") ∙ ap (all_of (codes "words")) rows ∙ found_is given.0 given.2) in
    let P : List (List ℕ) → Type 0 = λ ws. (command : Command) → ((c.command_of.result ≡ Some command) ↔ AsksWith command c.args.dir c.args.connections c.args.front ws) in
    subst P (same ∙ sym (ap (drop 1) given.1)) c.command_of.ensures

pub returns-in-None : goal.returns-in-None
returns-in-None c =
    let rule = rule_is c.new.result c.num_args-words.result c.new.ensures.rule c.num_args-words.ensures.0 c.num_args-words.ensures.1 in
    let app : app_of c.in_ok-line.line ≡ line = c.in_ok-line.ensures.shape (search rules) ∙ ap₂ with_rule c.new-2.ensures.app rule in
    let given = c.requires in
    let rows : rows_of (found_of c.in-Ok.matches) ≡ matches_of line (codes "tsdb" ∷ given.0) =
    (c.in-Ok.ensures.matches (ap is_simple app ∙ line_is_simple)).0 ∙ ap₂ matches_of app given.1 in
    let texts = texts_none c.get_strs.result _ c.in-None.is c.get_strs.ensures in
    no_words (drop 1 (map (λ t. t.now) c.args.texts.now)) c.args.dir c.args.connections c.args.front
    (ap (drop 1) given.1 ∙ found_nothing given.0 (texts ∙ raw_values-rows (found_of c.in-Ok.matches) (codes "words") ∙ ap (all_of (codes "words")) rows ∙ found_is given.0 given.2))

pub returns-else-eq : goal.returns-else-eq
returns-else-eq c =
    let rule = rule_is c.new.result c.num_args-words.result c.new.ensures.rule c.num_args-words.ensures.0 c.num_args-words.ensures.1 in
    let app : app_of c.in_ok-line.line ≡ line = c.in_ok-line.ensures.shape (search rules) ∙ ap₂ with_rule c.new-2.ensures.app rule in
    let given = c.requires in
    let out_of_memory = c.kind.ensures ∙ c.in-Err.ensures.passes (ap₂ takes app given.1 ∙ takes_words given.0 given.2 (few_words c.args.texts.now given.0 given.1 (search rules))) in
    absurd (same_false the_type c.kind.result kind.OutOfMemory (sym c.eq.ensures ∙ c.if-eq.false) out_of_memory)
