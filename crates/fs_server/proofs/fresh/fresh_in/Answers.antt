use Rattle.std.proofs.Common.{◌≡◌, ℕ, List, true, false, Err, Some, None, ap, sym, refl, ◌∙◌}
use Rattle.std.specs.Prelude.{option_map}
use Rattle.std.proofs.lemmas.Bool.{true_from_ne_false}
use Rattle.fs_ident.specs.Ident.{child}
use Rattle.fs_field.specs.Table.{borne_numbers}
use Rattle.fs_msg.specs.declared.end.End.TheVariants.{All}
use Rattle.fs_record.specs.declared.error.FreshError.TheVariants.{NoDir, NoIds}
use Rattle.fs_record.specs.Fresh.{fresh_number, is_directory}
use Rattle.fs_record.proofs.FreshNumbers.{same_number}
use Rattle.fs_rows.specs.Granted.{with_rows}
use Rattle.fs_server.specs.Grants.{got_by, lent_by}
use Rattle.fs_server.proofs.Giving.{spent_fresh, ends_without}
use Rattle.fs_server.proofs.fresh.fresh_in.Goals as goal

pub give-requires-clause-fresh : goal.give-requires-clause-fresh
give-requires-clause-fresh c =
    c.in-Ok.ensures.ok
    ∙ ap (λ m. option_map (child c.args.dir.now) (fresh_number m c.args.dir.now c.in_ok-borne.borne)) c.records.ensures
    ∙ ap (option_map (child c.args.dir.now)) (same_number c.args.at.now.records c.args.dir.now c.in_ok-borne.borne (borne_numbers c.args.dir.now (with_rows c.args.lent.rows c.args.at.now.rows)) c.in_ok-borne.ensures)

pub returns-in-Ok-clause-spent : goal.returns-in-Ok-clause-spent
returns-in-Ok-clause-spent c counter h =
    let q = c.give.ensures.spent counter h in
    let o = fresh_number c.args.at.now.records c.args.dir.now (borne_numbers c.args.dir.now (with_rows c.args.lent.rows c.args.at.now.rows)) in
    let told : Some c.in-Ok.id ≡ option_map (child c.args.dir.now) o =
    c.in-Ok.ensures.ok
    ∙ ap (λ m. option_map (child c.args.dir.now) (fresh_number m c.args.dir.now c.in_ok-borne.borne)) c.records.ensures
    ∙ ap (option_map (child c.args.dir.now)) (same_number c.args.at.now.records c.args.dir.now c.in_ok-borne.borne (borne_numbers c.args.dir.now (with_rows c.args.lent.rows c.args.at.now.rows)) c.in_ok-borne.ensures) in
    let here : is_directory c.args.at.now.records c.args.dir.now ≡ true =
    true_from_ne_false _ (λ e. absurd (cc (c.in-Ok.ensures.no_dir.1 (ap (λ m. is_directory m c.args.dir.now) c.records.ensures ∙ e)))) in
    (q.0, spent_fresh c.args.by c.args.dir.now c.in-Ok.id (is_directory c.args.at.now.records c.args.dir.now) o (lent_by c.args.lent All c.args.at.now) here told refl q.1)

pub returns-clause-asked : goal.returns-clause-asked
returns-clause-asked c =
    let borne : List ℕ = borne_numbers c.args.dir.now (with_rows c.args.lent.rows c.args.at.now.rows) in
    let dirs : c.in-Err.none ≡ NoDir → is_directory c.args.at.now.records c.args.dir.now ≡ false = λ e. ap (λ m. is_directory m c.args.dir.now) (sym c.records.ensures) ∙ c.in-Err.ensures.no_dir.0 (ap Err e) in
    let ids : c.in-Err.none ≡ NoIds → (is_directory c.args.at.now.records c.args.dir.now ≡ true) × (fresh_number c.args.at.now.records c.args.dir.now borne ≡ None) = λ e.
    let q = c.in-Err.ensures.no_ids.0 (ap Err e) in
    (ap (λ m. is_directory m c.args.dir.now) (sym c.records.ensures) ∙ q.0, sym (ap (λ m. fresh_number m c.args.dir.now c.in_ok-borne.borne) c.records.ensures ∙ same_number c.args.at.now.records c.args.dir.now c.in_ok-borne.borne borne c.in_ok-borne.ensures) ∙ q.1) in
    ap (λ got. got_by got c.args.at.now) c.without.ensures
    ∙ ends_without c.args.by c.args.dir.now c.in_ok-dir-in-Err.dir (is_directory c.args.at.now.records c.args.dir.now) c.in-Err.none c.in_ok-end-in-Err.end c.args.lent c.args.at.now dirs ids c.in_ok-end-in-Err.ensures c.in_ok-dir-in-Err.ensures
