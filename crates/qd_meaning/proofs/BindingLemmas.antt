-- The equations of the recursion by which expressions are bound.
use Rattle.std.proofs.Common.{sym, ap, ◌∙◌}
use Rattle.qd_sql_ast.specs.declared.tree.Check.{Check}
use Rattle.qd_sql_ast.specs.declared.tree.Check.TheVariants.{rolls-Nothing, rolls-Compare, rolls-InList, rolls-InText, rolls-IsNull, rolls-IsNotNull}
use Rattle.qd_sql_ast.specs.declared.tree.Prime.{Prime}
use Rattle.qd_sql_ast.specs.declared.tree.Prime.TheVariants.{rolls-Column, rolls-Number, rolls-Text, rolls-True, rolls-False, rolls-Null, rolls-Bracket}
use Rattle.qd_sql_ast.specs.declared.tree.Check.TheOpen.{Check-F, Prime-F}
use Rattle.qd_sql_ast.specs.declared.tree.Check.TheFolds.{fold-roll-Check, fold-roll-Prime, fold-roll-Expr, fold-roll-OrConj, fold-roll-Conj, fold-roll-AndNeg, fold-roll-Neg, fold-roll-Test, fold-roll-Plus, fold-roll-AddTerm, fold-roll-Term, fold-roll-MulSigned, fold-roll-Signed}
use Rattle.qd_meaning.specs.Typing.{Typed, Part, Link}
use Rattle.qd_meaning.specs.Binding.{Asking, check_step, prime_step, add_term_step, and_neg_step, conj_step, expr_step, mul_signed_step, neg_step, or_conj_step, plus_step, signed_step, term_step, test_step, typed_check, typed_prime}
use Rattle.qd_meaning.specs.Bindings.{BindingsFollow}

pub bindings-follow : BindingsFollow
bindings-follow =
    record {
      expr = λ scope first more. fold-roll-Expr Asking Typed Link Part Typed Typed Link Typed Part Typed Typed Typed Typed check_step (prime_step scope) add_term_step and_neg_step conj_step expr_step mul_signed_step neg_step or_conj_step plus_step signed_step term_step test_step (record { first = first; more = more });
      or_conj = λ scope at conj. fold-roll-OrConj Asking Typed Link Part Typed Typed Link Typed Part Typed Typed Typed Typed check_step (prime_step scope) add_term_step and_neg_step conj_step expr_step mul_signed_step neg_step or_conj_step plus_step signed_step term_step test_step (record { at = at; conj = conj });
      conj = λ scope first more. fold-roll-Conj Asking Typed Link Part Typed Typed Link Typed Part Typed Typed Typed Typed check_step (prime_step scope) add_term_step and_neg_step conj_step expr_step mul_signed_step neg_step or_conj_step plus_step signed_step term_step test_step (record { first = first; more = more });
      and_neg = λ scope at neg. fold-roll-AndNeg Asking Typed Link Part Typed Typed Link Typed Part Typed Typed Typed Typed check_step (prime_step scope) add_term_step and_neg_step conj_step expr_step mul_signed_step neg_step or_conj_step plus_step signed_step term_step test_step (record { at = at; neg = neg });
      neg = λ scope nots test. fold-roll-Neg Asking Typed Link Part Typed Typed Link Typed Part Typed Typed Typed Typed check_step (prime_step scope) add_term_step and_neg_step conj_step expr_step mul_signed_step neg_step or_conj_step plus_step signed_step term_step test_step (record { nots = nots; test = test });
      test = λ scope left check. fold-roll-Test Asking Typed Link Part Typed Typed Link Typed Part Typed Typed Typed Typed check_step (prime_step scope) add_term_step and_neg_step conj_step expr_step mul_signed_step neg_step or_conj_step plus_step signed_step term_step test_step (record { left = left; check = check });
      alone = λ scope x. ap (λ (c : Check). typed_check scope c x) (sym (rolls-Nothing)) ∙ ap (λ (f : Asking). f x) (fold-roll-Check Asking Typed Link Part Typed Typed Link Typed Part Typed Typed Typed Typed check_step (prime_step scope) add_term_step and_neg_step conj_step expr_step mul_signed_step neg_step or_conj_step plus_step signed_step term_step test_step (Check-F.Nothing));
      compare = λ scope op at right x. ap (λ (c : Check). typed_check scope c x) (sym (rolls-Compare op at right)) ∙ ap (λ (f : Asking). f x) (fold-roll-Check Asking Typed Link Part Typed Typed Link Typed Part Typed Typed Typed Typed check_step (prime_step scope) add_term_step and_neg_step conj_step expr_step mul_signed_step neg_step or_conj_step plus_step signed_step term_step test_step (Check-F.Compare op at right));
      in_list = λ scope at lits x. ap (λ (c : Check). typed_check scope c x) (sym (rolls-InList at lits)) ∙ ap (λ (f : Asking). f x) (fold-roll-Check Asking Typed Link Part Typed Typed Link Typed Part Typed Typed Typed Typed check_step (prime_step scope) add_term_step and_neg_step conj_step expr_step mul_signed_step neg_step or_conj_step plus_step signed_step term_step test_step (Check-F.InList at lits));
      in_text = λ scope at t x. ap (λ (c : Check). typed_check scope c x) (sym (rolls-InText at t)) ∙ ap (λ (f : Asking). f x) (fold-roll-Check Asking Typed Link Part Typed Typed Link Typed Part Typed Typed Typed Typed check_step (prime_step scope) add_term_step and_neg_step conj_step expr_step mul_signed_step neg_step or_conj_step plus_step signed_step term_step test_step (Check-F.InText at t));
      null = λ scope at x. ap (λ (c : Check). typed_check scope c x) (sym (rolls-IsNull at)) ∙ ap (λ (f : Asking). f x) (fold-roll-Check Asking Typed Link Part Typed Typed Link Typed Part Typed Typed Typed Typed check_step (prime_step scope) add_term_step and_neg_step conj_step expr_step mul_signed_step neg_step or_conj_step plus_step signed_step term_step test_step (Check-F.IsNull at));
      not_null = λ scope at x. ap (λ (c : Check). typed_check scope c x) (sym (rolls-IsNotNull at)) ∙ ap (λ (f : Asking). f x) (fold-roll-Check Asking Typed Link Part Typed Typed Link Typed Part Typed Typed Typed Typed check_step (prime_step scope) add_term_step and_neg_step conj_step expr_step mul_signed_step neg_step or_conj_step plus_step signed_step term_step test_step (Check-F.IsNotNull at));
      plus = λ scope first more. fold-roll-Plus Asking Typed Link Part Typed Typed Link Typed Part Typed Typed Typed Typed check_step (prime_step scope) add_term_step and_neg_step conj_step expr_step mul_signed_step neg_step or_conj_step plus_step signed_step term_step test_step (record { first = first; more = more });
      add_term = λ scope op at term. fold-roll-AddTerm Asking Typed Link Part Typed Typed Link Typed Part Typed Typed Typed Typed check_step (prime_step scope) add_term_step and_neg_step conj_step expr_step mul_signed_step neg_step or_conj_step plus_step signed_step term_step test_step (record { op = op; at = at; term = term });
      term = λ scope first more. fold-roll-Term Asking Typed Link Part Typed Typed Link Typed Part Typed Typed Typed Typed check_step (prime_step scope) add_term_step and_neg_step conj_step expr_step mul_signed_step neg_step or_conj_step plus_step signed_step term_step test_step (record { first = first; more = more });
      mul_signed = λ scope op at signed. fold-roll-MulSigned Asking Typed Link Part Typed Typed Link Typed Part Typed Typed Typed Typed check_step (prime_step scope) add_term_step and_neg_step conj_step expr_step mul_signed_step neg_step or_conj_step plus_step signed_step term_step test_step (record { op = op; at = at; signed = signed });
      signed = λ scope minuses prime. fold-roll-Signed Asking Typed Link Part Typed Typed Link Typed Part Typed Typed Typed Typed check_step (prime_step scope) add_term_step and_neg_step conj_step expr_step mul_signed_step neg_step or_conj_step plus_step signed_step term_step test_step (record { minuses = minuses; prime = prime });
      column = λ scope c. ap (λ (p : Prime). typed_prime scope p) (sym (rolls-Column c)) ∙ fold-roll-Prime Asking Typed Link Part Typed Typed Link Typed Part Typed Typed Typed Typed check_step (prime_step scope) add_term_step and_neg_step conj_step expr_step mul_signed_step neg_step or_conj_step plus_step signed_step term_step test_step (Prime-F.Column c);
      number = λ scope n. ap (λ (p : Prime). typed_prime scope p) (sym (rolls-Number n)) ∙ fold-roll-Prime Asking Typed Link Part Typed Typed Link Typed Part Typed Typed Typed Typed check_step (prime_step scope) add_term_step and_neg_step conj_step expr_step mul_signed_step neg_step or_conj_step plus_step signed_step term_step test_step (Prime-F.Number n);
      text = λ scope t. ap (λ (p : Prime). typed_prime scope p) (sym (rolls-Text t)) ∙ fold-roll-Prime Asking Typed Link Part Typed Typed Link Typed Part Typed Typed Typed Typed check_step (prime_step scope) add_term_step and_neg_step conj_step expr_step mul_signed_step neg_step or_conj_step plus_step signed_step term_step test_step (Prime-F.Text t);
      true_word = λ scope at. ap (λ (p : Prime). typed_prime scope p) (sym (rolls-True at)) ∙ fold-roll-Prime Asking Typed Link Part Typed Typed Link Typed Part Typed Typed Typed Typed check_step (prime_step scope) add_term_step and_neg_step conj_step expr_step mul_signed_step neg_step or_conj_step plus_step signed_step term_step test_step (Prime-F.True at);
      false_word = λ scope at. ap (λ (p : Prime). typed_prime scope p) (sym (rolls-False at)) ∙ fold-roll-Prime Asking Typed Link Part Typed Typed Link Typed Part Typed Typed Typed Typed check_step (prime_step scope) add_term_step and_neg_step conj_step expr_step mul_signed_step neg_step or_conj_step plus_step signed_step term_step test_step (Prime-F.False at);
      null_word = λ scope at. ap (λ (p : Prime). typed_prime scope p) (sym (rolls-Null at)) ∙ fold-roll-Prime Asking Typed Link Part Typed Typed Link Typed Part Typed Typed Typed Typed check_step (prime_step scope) add_term_step and_neg_step conj_step expr_step mul_signed_step neg_step or_conj_step plus_step signed_step term_step test_step (Prime-F.Null at);
      bracket = λ scope e. ap (λ (p : Prime). typed_prime scope p) (sym (rolls-Bracket e)) ∙ fold-roll-Prime Asking Typed Link Part Typed Typed Link Typed Part Typed Typed Typed Typed check_step (prime_step scope) add_term_step and_neg_step conj_step expr_step mul_signed_step neg_step or_conj_step plus_step signed_step term_step test_step (Prime-F.Bracket e);
    }
