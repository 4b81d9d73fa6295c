-- How many rows a LIMIT gives, and which.
use Rattle.std.proofs.Common.{◌≡◌, ℕ, ◌-◌, min, length, take, drop, refl, sym, ap, ◌∙◌, arith}
use Rattle.std.proofs.lemmas.List.{length-take, length-drop, take-append-drop}
use Rattle.qd_meaning.specs.Laws.{LimitsCount}

least_of : (n l : ℕ) → l - (l - n) ≡ min n l
least_of n l = grind arith

pub limits-count : LimitsCount
limits-count =
    record {
      all = λ rows. refl;
      first = λ n rows. length-take n rows;
      last = λ n rows. length-drop (length rows - n) rows ∙ least_of n (length rows);
      between = λ a b rows. length-drop a (take b rows) ∙ ap (λ l. l - a) (length-take b rows);
      front = λ n rows. (drop n rows, sym (take-append-drop n rows));
      end = λ n rows. (take (length rows - n) rows, sym (take-append-drop (length rows - n) rows));
    }
