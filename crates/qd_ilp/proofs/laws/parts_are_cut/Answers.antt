use Rattle.qd_ilp.proofs.Grammars.{name_spelled, name_is, word_spelled, word_is_cut, quoted_spelled, quoted_is}
use Rattle.qd_ilp.proofs.Parts.{item_spelled, item_is}
use Rattle.qd_ilp.proofs.Listed.{tags_spelled, tags_are}
use Rattle.qd_ilp.proofs.Tailed.{tail_spelled, tail_is}
use Rattle.qd_ilp.proofs.Spelled.{row_spelled, row_is}
use Rattle.qd_ilp.proofs.LineSpelled.{read_spelled, read_is}
use Rattle.qd_ilp.proofs.laws.parts_are_cut.Goals as goal

pub returns : goal.returns
returns c = record {
  law = record {
    names = λ text name rest. (name_spelled text name rest, name_is text name rest);
    words = λ text w rest. (word_spelled text w rest, word_is_cut text w rest);
    texts = λ text quoted rest. (quoted_spelled text quoted rest, quoted_is text quoted rest);
    items = λ tag text item rest. (item_spelled tag text item rest, item_is tag text item rest);
    tags = λ text tags rest. (tags_spelled text tags rest, tags_are text tags rest);
    tails = λ text moment rest. (tail_spelled text moment rest, tail_is text moment rest);
    rows = λ text row rest. (row_spelled text row rest, row_is text row rest);
    lines = λ text line rest. (read_spelled text line rest, read_is text line rest);
  };
}
