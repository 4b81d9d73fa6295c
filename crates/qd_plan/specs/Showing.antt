-- What items and their parts are as the code holds them, and what the items of a query are made of as far as they are read.
use Rattle.std.specs.Prelude.{◌≡◌, ℕ, ◌+◌, ◌==◌, Bool, false, if◌then◌else◌, List, [], ◌∷◌, map, codes, Option, Some, None}
use Rattle.qd_base.specs.declared.schema.ColType.{ColType}
use Rattle.qd_base.specs.declared.schema.ColType.TheVariants as kind
use Rattle.qd_value.specs.declared.bound.Bound.{Bound}
use Rattle.qd_meaning.specs.declared.parts.Agg.{Agg}
use Rattle.qd_meaning.specs.declared.parts.Agg.TheVariants as agg
use Rattle.qd_meaning.specs.declared.parts.Work.{Work}
use Rattle.qd_meaning.specs.declared.parts.Work.TheVariants as work
use Rattle.qd_meaning.specs.Typing.{Form, Plain}
use Rattle.qd_meaning.specs.Items as items
use Rattle.qd_meaning.specs.Items.{Value, Made, keys_among, aggs_among, role_of, columns_of}
use Rattle.qd_meaning.specs.Planned.{made_kinds}
use Rattle.qd_plan.specs.declared.shows.Part.{Part}
use Rattle.qd_plan.specs.declared.shows.Part.TheVariants as part
use Rattle.qd_plan.specs.declared.shows.Shows.{Shows}
use Rattle.qd_plan.specs.declared.work.Role.{Role}
use Rattle.qd_plan.specs.declared.work.Role.TheVariants as role
use Rattle.qd_plan.specs.declared.work.Seat.{Seat}
use Rattle.qd_plan.specs.declared.work.Seat.TheVariants as seat
use Rattle.qd_plan.specs.declared.work.Parts.{Parts}

-- ---- items

-- the position of a column as it stands
abbrev pub place_in : Form → Option ℕ
place_in (Plain n col) = Some n
place_in _ = None

abbrev pub part_seen : items.Part → Part
part_seen (Value x) = part.Value x.bound (place_in x.form)
part_seen (Made a) = part.Made a

abbrev pub shows : items.Shows → Shows
shows s = record { name = s.name; kind = s.kind; part = part_seen s.part }

-- ---- roles

abbrev pub role_seen : items.Role → Role
role_seen items.Start = role.Start
role_seen (items.Key e) = role.Key e
role_seen (items.Makes a) = role.Makes a

abbrev pub is_start : Option ℕ → Option ℕ → Bool
is_start (Some time_col) (Some n) = n == time_col
is_start _ _ = false

abbrev pub role_by : Option ℕ → Part → Role
role_by buckets (part.Value e place) = if is_start buckets place then role.Start else role.Key e
role_by buckets (part.Made a) = role.Makes a

abbrev pub key_in : Role → List Bound
key_in role.Start = []
key_in (role.Key e) = e ∷ []
key_in (role.Makes a) = []

abbrev pub agg_in : Role → List Agg
agg_in role.Start = []
agg_in (role.Key e) = []
agg_in (role.Makes a) = a ∷ []

abbrev pub kind_in : ColType → Role → List ColType
kind_in kind role.Start = []
kind_in kind (role.Key e) = []
kind_in kind (role.Makes a) = kind ∷ []

-- ---- seats: the number of keys, or of aggregates, in front

abbrev pub seat_of : ℕ → ℕ → Role → Seat
seat_of keys aggs role.Start = seat.Start
seat_of keys aggs (role.Key e) = seat.Key keys
seat_of keys aggs (role.Makes a) = seat.Agg aggs

abbrev pub seats_from : ℕ → ℕ → List items.Role → List Seat
seats_from keys aggs [] = []
seats_from keys aggs (items.Start ∷ rs) = seat.Start ∷ seats_from keys aggs rs
seats_from keys aggs (items.Key e ∷ rs) = seat.Key keys ∷ seats_from (keys + 1) aggs rs
seats_from keys aggs (items.Makes a ∷ rs) = seat.Agg aggs ∷ seats_from keys (aggs + 1) rs

-- where a seat is in a row that has so many cells in front of its keys, and in front of its aggregates
abbrev pub pick : ℕ → ℕ → Seat → ℕ
pick keys aggs seat.Start = 0
pick keys aggs (seat.Key n) = keys + n
pick keys aggs (seat.Agg n) = aggs + n

-- ---- what items are made of

abbrev pub roles : Option ℕ → List items.Shows → List items.Role
roles buckets shown = map (λ (s : items.Shows). role_of buckets s.part) shown

pub record Makes (buckets : Option ℕ) (shown : List items.Shows) (made : Parts) : Type 0 where
  pub keys : made.keys ≡ keys_among (roles buckets shown)
  pub aggs : made.aggs ≡ aggs_among (roles buckets shown)
  pub kinds : made.kinds ≡ made_kinds shown
  pub seats : made.seats ≡ seats_from 0 0 (roles buckets shown)
  pub out : made.out ≡ columns_of shown

-- a row for each row, or for each group where something is made
abbrev pub plain_work : List ColType → List Bound → List Agg → Work
plain_work [] keys aggs = work.Plain keys
plain_work (k ∷ ks) keys aggs = work.Group (record { keys = keys; aggs = aggs })

-- `count()`
abbrev pub counted : Shows
counted = record { name = codes "count"; kind = kind.Long; part = part.Made agg.Count }
