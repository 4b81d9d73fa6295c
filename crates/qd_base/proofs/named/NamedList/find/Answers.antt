use Rattle.std.proofs.Common.{◌≡◌, List, Some, None, position, subst}
use Rattle.std.specs.Str.{str_eq_ignore_ascii_case}
use Rattle.qd_base.proofs.NameIndex.{name_found, name_absent}
use Rattle.qd_base.proofs.named.NamedList.find.Goals as goal

pub returns-in-Ok : goal.returns-in-Ok
returns-in-Ok g c = record {
  position =
      subst (λ (xs : List g.row.T.Denot). Some c.index.result.now ≡ position (λ x. str_eq_ignore_ascii_case (g.T.Named.name_of x) c.args.name.now) xs) c.self.view_is
      (name_found g.T.Named.name_of c.args.name.now c.self.inside.items.items c.self.inside.order.items c.self.invariant c.in-Ok.k c.index.result.now (rw (c.as_slice.ensures.value, c.as_slice-2.ensures.value) at c.in-Ok.ensures.found) c.index.ensures);
}

pub returns-in-Err : goal.returns-in-Err
returns-in-Err g c = record {
  position =
      subst (λ (xs : List g.row.T.Denot). None ≡ position (λ x. str_eq_ignore_ascii_case (g.T.Named.name_of x) c.args.name.now) xs) c.self.view_is
      (name_absent g.T.Named.name_of c.args.name.now c.self.inside.items.items c.self.inside.order.items c.self.invariant c.in-Err.field-0 (rw (c.as_slice.ensures.value, c.as_slice-2.ensures.value) at c.in-Err.ensures.absent));
}
