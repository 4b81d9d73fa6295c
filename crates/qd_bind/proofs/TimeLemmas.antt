-- What is read of a text is the moment, and the interval, that the text names.
use Rattle.std.proofs.Common.{◌≡◌, ℕ, List, Result, Ok, Err, refl, sym}
use Rattle.std.specs.Prelude.{◌↔◌}
use Rattle.qd_time.specs.declared.fault.TimeFault.{TimeFault}
use Rattle.qd_time.specs.declared.fault.TimeFault.TheVariants as fault
use Rattle.qd_time.specs.Spelled.{SpellsTime, SpellsEarly, IsNoTime, SpellsInterval, SpellsOutside, IsNoInterval}
use Rattle.qd_meaning.specs.TimeTexts.{time_of_text, interval_of_text}
use Rattle.qd_meaning.specs.Laws.{TimesAreRead}

pub moment-read : TimesAreRead → (text : List ℕ) (r : Result ℕ TimeFault) → ((ts : ℕ) → ((r ≡ Ok ts) ↔ SpellsTime text ts)) → ((r ≡ Err fault.Range) ↔ SpellsEarly text) → ((r ≡ Err fault.Form) ↔ IsNoTime text)
    → r ≡ time_of_text text
moment-read law text (Ok ts) ok range form = sym ((law.time text ts).1 ((ok ts).0 refl))
moment-read law text (Err fault.Range) ok range form = sym ((law.early text).1 (range.0 refl))
moment-read law text (Err fault.Form) ok range form = sym ((law.no_time text).1 (form.0 refl))

pub interval-read : TimesAreRead → (text : List ℕ) (r : Result (ℕ × ℕ) TimeFault) → ((first last : ℕ) → ((r ≡ Ok (first, last)) ↔ SpellsInterval text first last)) → ((r ≡ Err fault.Range) ↔ SpellsOutside text)
    → ((r ≡ Err fault.Form) ↔ IsNoInterval text) → r ≡ interval_of_text text
interval-read law text (Ok i) ok range form = sym ((law.interval text i.0 i.1).1 ((ok i.0 i.1).0 refl))
interval-read law text (Err fault.Range) ok range form = sym ((law.outside text).1 (range.0 refl))
interval-read law text (Err fault.Form) ok range form = sym ((law.no_interval text).1 (form.0 refl))
