use Rattle.qd_sql_laws.proofs.Decided.{tokens_read, read_tokens, by_grammar, is_by_grammar, only_statement, no_statement, deep_text, text_deep}
use Rattle.qd_sql_laws.proofs.Shallow.{shallow_low, low_shallow}
use Rattle.qd_sql_laws.proofs.WholeExact.{one_deep}
use Rattle.qd_sql_laws.proofs.laws.grammar_decides.Goals as goal

pub returns : goal.returns
returns c = record {
  law = record {
    one_statement = one_deep;
    read = λ ts s. (tokens_read ts s, read_tokens ts s);
    shallow = λ ts s. (shallow_low ts s, low_shallow ts s);
    statements = λ text s. (by_grammar text s, is_by_grammar text s);
    only_statement = only_statement;
    refused = no_statement;
    too_deep = deep_text;
    deeper = text_deep;
  };
}
