-- The recursion on the rules of the grammar: what an expression is made into, from what is made of its parts.
use Rattle.qd_sql_ast.specs.declared.tree.Check.{Check}
use Rattle.qd_sql_ast.specs.declared.tree.Prime.{Prime}
use Rattle.qd_sql_ast.specs.declared.tree.AddTerm.{AddTerm}
use Rattle.qd_sql_ast.specs.declared.tree.AndNeg.{AndNeg}
use Rattle.qd_sql_ast.specs.declared.tree.Conj.{Conj}
use Rattle.qd_sql_ast.specs.declared.tree.Expr.{Expr}
use Rattle.qd_sql_ast.specs.declared.tree.MulSigned.{MulSigned}
use Rattle.qd_sql_ast.specs.declared.tree.Neg.{Neg}
use Rattle.qd_sql_ast.specs.declared.tree.OrConj.{OrConj}
use Rattle.qd_sql_ast.specs.declared.tree.Plus.{Plus}
use Rattle.qd_sql_ast.specs.declared.tree.Signed.{Signed}
use Rattle.qd_sql_ast.specs.declared.tree.Term.{Term}
use Rattle.qd_sql_ast.specs.declared.tree.Test.{Test}
use Rattle.qd_sql_ast.specs.declared.tree.Check.TheOpen.{Check-F, Prime-F, AddTerm-F, AndNeg-F, Conj-F, Expr-F, MulSigned-F, Neg-F, OrConj-F, Plus-F, Signed-F, Term-F, Test-F}
use Rattle.qd_sql_ast.specs.declared.tree.Check.TheFolds.{fold-Check, fold-Prime, fold-AddTerm, fold-AndNeg, fold-Conj, fold-Expr, fold-MulSigned, fold-Neg, fold-OrConj, fold-Plus, fold-Signed, fold-Term, fold-Test}

-- what is made of each rule, from what is made of its parts
pub record Rules (OfCheck OfPrime OfAddTerm OfAndNeg OfConj OfExpr OfMulSigned OfNeg OfOrConj OfPlus OfSigned OfTerm OfTest : Type 0) : Type 0 where
  pub check : Check-F OfCheck OfPrime OfAddTerm OfAndNeg OfConj OfExpr OfMulSigned OfNeg OfOrConj OfPlus OfSigned OfTerm OfTest → OfCheck
  pub prime : Prime-F OfCheck OfPrime OfAddTerm OfAndNeg OfConj OfExpr OfMulSigned OfNeg OfOrConj OfPlus OfSigned OfTerm OfTest → OfPrime
  pub add_term : AddTerm-F OfCheck OfPrime OfAddTerm OfAndNeg OfConj OfExpr OfMulSigned OfNeg OfOrConj OfPlus OfSigned OfTerm OfTest → OfAddTerm
  pub and_neg : AndNeg-F OfCheck OfPrime OfAddTerm OfAndNeg OfConj OfExpr OfMulSigned OfNeg OfOrConj OfPlus OfSigned OfTerm OfTest → OfAndNeg
  pub conj : Conj-F OfCheck OfPrime OfAddTerm OfAndNeg OfConj OfExpr OfMulSigned OfNeg OfOrConj OfPlus OfSigned OfTerm OfTest → OfConj
  pub expr : Expr-F OfCheck OfPrime OfAddTerm OfAndNeg OfConj OfExpr OfMulSigned OfNeg OfOrConj OfPlus OfSigned OfTerm OfTest → OfExpr
  pub mul_signed : MulSigned-F OfCheck OfPrime OfAddTerm OfAndNeg OfConj OfExpr OfMulSigned OfNeg OfOrConj OfPlus OfSigned OfTerm OfTest → OfMulSigned
  pub neg : Neg-F OfCheck OfPrime OfAddTerm OfAndNeg OfConj OfExpr OfMulSigned OfNeg OfOrConj OfPlus OfSigned OfTerm OfTest → OfNeg
  pub or_conj : OrConj-F OfCheck OfPrime OfAddTerm OfAndNeg OfConj OfExpr OfMulSigned OfNeg OfOrConj OfPlus OfSigned OfTerm OfTest → OfOrConj
  pub plus : Plus-F OfCheck OfPrime OfAddTerm OfAndNeg OfConj OfExpr OfMulSigned OfNeg OfOrConj OfPlus OfSigned OfTerm OfTest → OfPlus
  pub signed : Signed-F OfCheck OfPrime OfAddTerm OfAndNeg OfConj OfExpr OfMulSigned OfNeg OfOrConj OfPlus OfSigned OfTerm OfTest → OfSigned
  pub term : Term-F OfCheck OfPrime OfAddTerm OfAndNeg OfConj OfExpr OfMulSigned OfNeg OfOrConj OfPlus OfSigned OfTerm OfTest → OfTerm
  pub test : Test-F OfCheck OfPrime OfAddTerm OfAndNeg OfConj OfExpr OfMulSigned OfNeg OfOrConj OfPlus OfSigned OfTerm OfTest → OfTest

abbrev pub made_of_check : {OfCheck OfPrime OfAddTerm OfAndNeg OfConj OfExpr OfMulSigned OfNeg OfOrConj OfPlus OfSigned OfTerm OfTest : Type 0} → Rules OfCheck OfPrime OfAddTerm OfAndNeg OfConj OfExpr OfMulSigned OfNeg OfOrConj OfPlus OfSigned OfTerm OfTest → Check → OfCheck
made_of_check {OfCheck} {OfPrime} {OfAddTerm} {OfAndNeg} {OfConj} {OfExpr} {OfMulSigned} {OfNeg} {OfOrConj} {OfPlus} {OfSigned} {OfTerm} {OfTest} rules x =
    fold-Check OfCheck OfPrime OfAddTerm OfAndNeg OfConj OfExpr OfMulSigned OfNeg OfOrConj OfPlus OfSigned OfTerm OfTest rules.check rules.prime rules.add_term rules.and_neg rules.conj rules.expr rules.mul_signed rules.neg rules.or_conj rules.plus rules.signed rules.term rules.test x

abbrev pub made_of_prime : {OfCheck OfPrime OfAddTerm OfAndNeg OfConj OfExpr OfMulSigned OfNeg OfOrConj OfPlus OfSigned OfTerm OfTest : Type 0} → Rules OfCheck OfPrime OfAddTerm OfAndNeg OfConj OfExpr OfMulSigned OfNeg OfOrConj OfPlus OfSigned OfTerm OfTest → Prime → OfPrime
made_of_prime {OfCheck} {OfPrime} {OfAddTerm} {OfAndNeg} {OfConj} {OfExpr} {OfMulSigned} {OfNeg} {OfOrConj} {OfPlus} {OfSigned} {OfTerm} {OfTest} rules x =
    fold-Prime OfCheck OfPrime OfAddTerm OfAndNeg OfConj OfExpr OfMulSigned OfNeg OfOrConj OfPlus OfSigned OfTerm OfTest rules.check rules.prime rules.add_term rules.and_neg rules.conj rules.expr rules.mul_signed rules.neg rules.or_conj rules.plus rules.signed rules.term rules.test x

abbrev pub made_of_add_term : {OfCheck OfPrime OfAddTerm OfAndNeg OfConj OfExpr OfMulSigned OfNeg OfOrConj OfPlus OfSigned OfTerm OfTest : Type 0} → Rules OfCheck OfPrime OfAddTerm OfAndNeg OfConj OfExpr OfMulSigned OfNeg OfOrConj OfPlus OfSigned OfTerm OfTest → AddTerm → OfAddTerm
made_of_add_term {OfCheck} {OfPrime} {OfAddTerm} {OfAndNeg} {OfConj} {OfExpr} {OfMulSigned} {OfNeg} {OfOrConj} {OfPlus} {OfSigned} {OfTerm} {OfTest} rules x =
    fold-AddTerm OfCheck OfPrime OfAddTerm OfAndNeg OfConj OfExpr OfMulSigned OfNeg OfOrConj OfPlus OfSigned OfTerm OfTest rules.check rules.prime rules.add_term rules.and_neg rules.conj rules.expr rules.mul_signed rules.neg rules.or_conj rules.plus rules.signed rules.term rules.test x

abbrev pub made_of_and_neg : {OfCheck OfPrime OfAddTerm OfAndNeg OfConj OfExpr OfMulSigned OfNeg OfOrConj OfPlus OfSigned OfTerm OfTest : Type 0} → Rules OfCheck OfPrime OfAddTerm OfAndNeg OfConj OfExpr OfMulSigned OfNeg OfOrConj OfPlus OfSigned OfTerm OfTest → AndNeg → OfAndNeg
made_of_and_neg {OfCheck} {OfPrime} {OfAddTerm} {OfAndNeg} {OfConj} {OfExpr} {OfMulSigned} {OfNeg} {OfOrConj} {OfPlus} {OfSigned} {OfTerm} {OfTest} rules x =
    fold-AndNeg OfCheck OfPrime OfAddTerm OfAndNeg OfConj OfExpr OfMulSigned OfNeg OfOrConj OfPlus OfSigned OfTerm OfTest rules.check rules.prime rules.add_term rules.and_neg rules.conj rules.expr rules.mul_signed rules.neg rules.or_conj rules.plus rules.signed rules.term rules.test x

abbrev pub made_of_conj : {OfCheck OfPrime OfAddTerm OfAndNeg OfConj OfExpr OfMulSigned OfNeg OfOrConj OfPlus OfSigned OfTerm OfTest : Type 0} → Rules OfCheck OfPrime OfAddTerm OfAndNeg OfConj OfExpr OfMulSigned OfNeg OfOrConj OfPlus OfSigned OfTerm OfTest → Conj → OfConj
made_of_conj {OfCheck} {OfPrime} {OfAddTerm} {OfAndNeg} {OfConj} {OfExpr} {OfMulSigned} {OfNeg} {OfOrConj} {OfPlus} {OfSigned} {OfTerm} {OfTest} rules x =
    fold-Conj OfCheck OfPrime OfAddTerm OfAndNeg OfConj OfExpr OfMulSigned OfNeg OfOrConj OfPlus OfSigned OfTerm OfTest rules.check rules.prime rules.add_term rules.and_neg rules.conj rules.expr rules.mul_signed rules.neg rules.or_conj rules.plus rules.signed rules.term rules.test x

abbrev pub made_of_expr : {OfCheck OfPrime OfAddTerm OfAndNeg OfConj OfExpr OfMulSigned OfNeg OfOrConj OfPlus OfSigned OfTerm OfTest : Type 0} → Rules OfCheck OfPrime OfAddTerm OfAndNeg OfConj OfExpr OfMulSigned OfNeg OfOrConj OfPlus OfSigned OfTerm OfTest → Expr → OfExpr
made_of_expr {OfCheck} {OfPrime} {OfAddTerm} {OfAndNeg} {OfConj} {OfExpr} {OfMulSigned} {OfNeg} {OfOrConj} {OfPlus} {OfSigned} {OfTerm} {OfTest} rules x =
    fold-Expr OfCheck OfPrime OfAddTerm OfAndNeg OfConj OfExpr OfMulSigned OfNeg OfOrConj OfPlus OfSigned OfTerm OfTest rules.check rules.prime rules.add_term rules.and_neg rules.conj rules.expr rules.mul_signed rules.neg rules.or_conj rules.plus rules.signed rules.term rules.test x

abbrev pub made_of_mul_signed : {OfCheck OfPrime OfAddTerm OfAndNeg OfConj OfExpr OfMulSigned OfNeg OfOrConj OfPlus OfSigned OfTerm OfTest : Type 0} → Rules OfCheck OfPrime OfAddTerm OfAndNeg OfConj OfExpr OfMulSigned OfNeg OfOrConj OfPlus OfSigned OfTerm OfTest → MulSigned → OfMulSigned
made_of_mul_signed {OfCheck} {OfPrime} {OfAddTerm} {OfAndNeg} {OfConj} {OfExpr} {OfMulSigned} {OfNeg} {OfOrConj} {OfPlus} {OfSigned} {OfTerm} {OfTest} rules x =
    fold-MulSigned OfCheck OfPrime OfAddTerm OfAndNeg OfConj OfExpr OfMulSigned OfNeg OfOrConj OfPlus OfSigned OfTerm OfTest rules.check rules.prime rules.add_term rules.and_neg rules.conj rules.expr rules.mul_signed rules.neg rules.or_conj rules.plus rules.signed rules.term rules.test x

abbrev pub made_of_neg : {OfCheck OfPrime OfAddTerm OfAndNeg OfConj OfExpr OfMulSigned OfNeg OfOrConj OfPlus OfSigned OfTerm OfTest : Type 0} → Rules OfCheck OfPrime OfAddTerm OfAndNeg OfConj OfExpr OfMulSigned OfNeg OfOrConj OfPlus OfSigned OfTerm OfTest → Neg → OfNeg
made_of_neg {OfCheck} {OfPrime} {OfAddTerm} {OfAndNeg} {OfConj} {OfExpr} {OfMulSigned} {OfNeg} {OfOrConj} {OfPlus} {OfSigned} {OfTerm} {OfTest} rules x =
    fold-Neg OfCheck OfPrime OfAddTerm OfAndNeg OfConj OfExpr OfMulSigned OfNeg OfOrConj OfPlus OfSigned OfTerm OfTest rules.check rules.prime rules.add_term rules.and_neg rules.conj rules.expr rules.mul_signed rules.neg rules.or_conj rules.plus rules.signed rules.term rules.test x

abbrev pub made_of_or_conj : {OfCheck OfPrime OfAddTerm OfAndNeg OfConj OfExpr OfMulSigned OfNeg OfOrConj OfPlus OfSigned OfTerm OfTest : Type 0} → Rules OfCheck OfPrime OfAddTerm OfAndNeg OfConj OfExpr OfMulSigned OfNeg OfOrConj OfPlus OfSigned OfTerm OfTest → OrConj → OfOrConj
made_of_or_conj {OfCheck} {OfPrime} {OfAddTerm} {OfAndNeg} {OfConj} {OfExpr} {OfMulSigned} {OfNeg} {OfOrConj} {OfPlus} {OfSigned} {OfTerm} {OfTest} rules x =
    fold-OrConj OfCheck OfPrime OfAddTerm OfAndNeg OfConj OfExpr OfMulSigned OfNeg OfOrConj OfPlus OfSigned OfTerm OfTest rules.check rules.prime rules.add_term rules.and_neg rules.conj rules.expr rules.mul_signed rules.neg rules.or_conj rules.plus rules.signed rules.term rules.test x

abbrev pub made_of_plus : {OfCheck OfPrime OfAddTerm OfAndNeg OfConj OfExpr OfMulSigned OfNeg OfOrConj OfPlus OfSigned OfTerm OfTest : Type 0} → Rules OfCheck OfPrime OfAddTerm OfAndNeg OfConj OfExpr OfMulSigned OfNeg OfOrConj OfPlus OfSigned OfTerm OfTest → Plus → OfPlus
made_of_plus {OfCheck} {OfPrime} {OfAddTerm} {OfAndNeg} {OfConj} {OfExpr} {OfMulSigned} {OfNeg} {OfOrConj} {OfPlus} {OfSigned} {OfTerm} {OfTest} rules x =
    fold-Plus OfCheck OfPrime OfAddTerm OfAndNeg OfConj OfExpr OfMulSigned OfNeg OfOrConj OfPlus OfSigned OfTerm OfTest rules.check rules.prime rules.add_term rules.and_neg rules.conj rules.expr rules.mul_signed rules.neg rules.or_conj rules.plus rules.signed rules.term rules.test x

abbrev pub made_of_signed : {OfCheck OfPrime OfAddTerm OfAndNeg OfConj OfExpr OfMulSigned OfNeg OfOrConj OfPlus OfSigned OfTerm OfTest : Type 0} → Rules OfCheck OfPrime OfAddTerm OfAndNeg OfConj OfExpr OfMulSigned OfNeg OfOrConj OfPlus OfSigned OfTerm OfTest → Signed → OfSigned
made_of_signed {OfCheck} {OfPrime} {OfAddTerm} {OfAndNeg} {OfConj} {OfExpr} {OfMulSigned} {OfNeg} {OfOrConj} {OfPlus} {OfSigned} {OfTerm} {OfTest} rules x =
    fold-Signed OfCheck OfPrime OfAddTerm OfAndNeg OfConj OfExpr OfMulSigned OfNeg OfOrConj OfPlus OfSigned OfTerm OfTest rules.check rules.prime rules.add_term rules.and_neg rules.conj rules.expr rules.mul_signed rules.neg rules.or_conj rules.plus rules.signed rules.term rules.test x

abbrev pub made_of_term : {OfCheck OfPrime OfAddTerm OfAndNeg OfConj OfExpr OfMulSigned OfNeg OfOrConj OfPlus OfSigned OfTerm OfTest : Type 0} → Rules OfCheck OfPrime OfAddTerm OfAndNeg OfConj OfExpr OfMulSigned OfNeg OfOrConj OfPlus OfSigned OfTerm OfTest → Term → OfTerm
made_of_term {OfCheck} {OfPrime} {OfAddTerm} {OfAndNeg} {OfConj} {OfExpr} {OfMulSigned} {OfNeg} {OfOrConj} {OfPlus} {OfSigned} {OfTerm} {OfTest} rules x =
    fold-Term OfCheck OfPrime OfAddTerm OfAndNeg OfConj OfExpr OfMulSigned OfNeg OfOrConj OfPlus OfSigned OfTerm OfTest rules.check rules.prime rules.add_term rules.and_neg rules.conj rules.expr rules.mul_signed rules.neg rules.or_conj rules.plus rules.signed rules.term rules.test x

abbrev pub made_of_test : {OfCheck OfPrime OfAddTerm OfAndNeg OfConj OfExpr OfMulSigned OfNeg OfOrConj OfPlus OfSigned OfTerm OfTest : Type 0} → Rules OfCheck OfPrime OfAddTerm OfAndNeg OfConj OfExpr OfMulSigned OfNeg OfOrConj OfPlus OfSigned OfTerm OfTest → Test → OfTest
made_of_test {OfCheck} {OfPrime} {OfAddTerm} {OfAndNeg} {OfConj} {OfExpr} {OfMulSigned} {OfNeg} {OfOrConj} {OfPlus} {OfSigned} {OfTerm} {OfTest} rules x =
    fold-Test OfCheck OfPrime OfAddTerm OfAndNeg OfConj OfExpr OfMulSigned OfNeg OfOrConj OfPlus OfSigned OfTerm OfTest rules.check rules.prime rules.add_term rules.and_neg rules.conj rules.expr rules.mul_signed rules.neg rules.or_conj rules.plus rules.signed rules.term rules.test x
