-- The types of classes as the code holds them, and the columns of a right side.
use Rattle.std.specs.Prelude.{List, [], Option, Some, None}
use Rattle.qd_base.specs.declared.schema.Col.{Col}
use Rattle.qd_base.specs.declared.schema.ColType.{ColType}
use Rattle.qd_base.specs.declared.schema.ColType.TheVariants as kind
use Rattle.qd_bind.specs.declared.class.Class.{Class}
use Rattle.qd_bind.specs.declared.class.Class.TheVariants as of
use Rattle.qd_bind.specs.declared.side.Side.{Side}
use Rattle.qd_bind.specs.Scoped.{columns}

abbrev pub kind_of_class : Class → ColType
kind_of_class of.Any = kind.Long
kind_of_class of.Number = kind.Long
kind_of_class of.Truth = kind.Bool
kind_of_class of.Text = kind.Varchar
kind_of_class of.Time = kind.Time

abbrev pub columns_or_none : Option Side → List Col
columns_or_none None = []
columns_or_none (Some s) = columns s
