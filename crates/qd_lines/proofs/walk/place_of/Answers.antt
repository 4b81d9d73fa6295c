use Rattle.std.proofs.Common.{◌∙◌, ◌∷◌, [], List, Option, sym, ap, subst, arith, All, true≢false}
use Rattle.std.specs.List.{IsDistinct}
use Rattle.std.specs.Option.{is_none}
use Rattle.std.proofs.lemmas.List.Elements.{All-from_recursion}
use Rattle.qd_base.specs.declared.schema.Col.{Col}
use Rattle.qd_base.specs.declared.schema.Schema.{Schema}
use Rattle.qd_base.specs.Names.{IsColumnName, IsTableName}
use Rattle.qd_base.specs.Schemas.{schema_of}
use Rattle.qd_ilp.specs.Transaction.{columns_before, designated, name_at, stamp_column}
use Rattle.qd_lines.specs.Codes.{spelled_as}
use Rattle.qd_lines.specs.Drafts.{IsUsable}
use Rattle.qd_lines.proofs.SchemaLemmas.{schema-there, timestamp-named, usable-there}
use Rattle.qd_lines.proofs.walk.place_of.Goals as goal

-- the one column of a new table
alone : IsUsable (stamp_column ∷ []) 0
unfolding IsDistinct
alone = record { distinct = (tt, tt); there = omega arith }

alone-named : All (λ (c : Col). IsColumnName c.name) (stamp_column ∷ [])
alone-named = All-from_recursion (λ (c : Col). IsColumnName c.name) (stamp_column ∷ []) (timestamp-named, tt)

pub returns-in-Some : goal.returns-in-Some
returns-in-Some c =
    let s = c.in-Some.schema.now in
    record {
      place = λ all row covers lawful e.
          let is = ap (schema_of all) e ∙ sym (c.in-Some.ensures.schema ∙ c.requires.sought all covers) in
          record {
            cols = ap columns_before (sym is);
            name = ap designated (sym is);
            fresh = ap is_none (sym is);
            spelled = c.bytes.ensures.same ∙ ap (λ (o : Option Schema). spelled_as o row.table) (sym is);
            lawful = λ _. subst IsTableName (sym c.bytes.ensures.same) (schema-there all row.table s lawful is).0.name;
            tables = c.len.ensures.count all covers;
          };
      usable = λ all covers lawful. usable-there all c.args.table.now s lawful (sym (c.in-Some.ensures.schema ∙ c.requires.sought all covers));
      named = λ all covers lawful. (schema-there all c.args.table.now s lawful (sym (c.in-Some.ensures.schema ∙ c.requires.sought all covers))).0.names;
    }

pub returns-in-None : goal.returns-in-None
returns-in-None c =
    let cols = c.requires.stamp in
    record {
      place = λ all row covers lawful e.
          let is = ap (schema_of all) e ∙ sym (c.in-None.ensures.schema ∙ c.requires.sought all covers) in
          record {
            cols = cols ∙ ap columns_before (sym is);
            name = ap (λ (cs : List Col). name_at cs 0) cols ∙ ap designated (sym is);
            fresh = ap is_none (sym is);
            spelled = sym e ∙ ap (λ (o : Option Schema). spelled_as o row.table) (sym is);
            lawful = λ f. absurd (true≢false f);
            tables = c.len-in-None.ensures.count all covers;
          };
      usable = λ all covers lawful. subst (λ (cs : List Col). IsUsable cs 0) (sym cols) alone;
      named = λ all covers lawful. subst (All (λ (x : Col). IsColumnName x.name)) (sym cols) alone-named;
    }
