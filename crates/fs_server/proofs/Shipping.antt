-- The entries of a log, one after another.
use Rattle.std.proofs.Common.{◌≡◌, ◌&&◌, ◌<◌, ◌+◌, ℕ, true, List, [], ◌∷◌, ◌++◌, length, drop, get_or, ap, sym, subst, ◌∙◌}
use Rattle.std.specs.Prelude.{None}
use Rattle.std.specs.List.{list_all}
use Rattle.std.proofs.lemmas.List.{drop_more}
use Rattle.std.proofs.lemmas.List.Folds.{list_all-append}
use Rattle.fs_ident.specs.declared.actor.Session.{Session}
use Rattle.fs_field.specs.declared.effect.Effect.{Effect}
use Rattle.fs_msg.specs.declared.entry.Entry.{Entry}
use Rattle.fs_msg.specs.declared.item.Item.{Item}
use Rattle.fs_model.specs.Asking.{home_of}
use Rattle.fs_record.specs.Applied.{is_undoable, records_after_all}
use Rattle.fs_record.specs.Effects.{effects_of}
use Rattle.fs_record.specs.Records.{RecordMap}
use Rattle.fs_record.proofs.AllApplied.{records_after_all-append}
use Rattle.fs_record.proofs.Undoing.{plain_effects}
use Rattle.fs_server.specs.declared.change.Change.TheVariants.{Admit}
use Rattle.fs_server.specs.declared.decide.Decided.{Decided}
use Rattle.fs_server.specs.declared.state.Server.{Server}
use Rattle.fs_server.specs.Decided.{CanDecide}
use Rattle.fs_server.specs.Grants.{IsReady}
use Rattle.fs_server.specs.Plan.{CanChange, changed}
use Rattle.fs_server.specs.Server.{is_mine}
use Rattle.fs_server.specs.Ships.{first_gone, item_of, ship_from, with_entry}
use Rattle.fs_server.proofs.OneByOne.{entry_taken}
use Rattle.fs_server.proofs.Kept.{with_others}

-- one entry more is admitted
admit-append : (by : Session) (e : Entry) (effects : List Effect) (s : Server) → changed (Admit (effects ++ effects_of by e.op e.reply)) s ≡ with_entry by e (changed (Admit effects) s)
admit-append by e effects s = ap (λ (m : RecordMap). let t : Server = record s { records = m } in t) (records_after_all-append s.records effects (effects_of by e.op e.reply))

-- the effects of the entries can be taken back
pub more_undoable : (by : Session) (e : Entry) (effects : List Effect) → list_all is_undoable effects ≡ true → list_all is_undoable (effects ++ effects_of by e.op e.reply) ≡ true
more_undoable by e effects h = list_all-append is_undoable effects (effects_of by e.op e.reply) ∙ ap (λ b. b && list_all is_undoable (effects_of by e.op e.reply)) h ∙ plain_effects by e.op e.reply

-- the entry at this place is admitted
pub ship_more : (by : Session) (entries : List Entry) (i : ℕ) (e : Entry) (effects : List Effect) (admitted : List Item) (s : Server) → i < length entries → e ≡ get_or entries i e → is_mine s (home_of e.op) ≡ true → first_gone s.rows by e.uses ≡ None
    → ship_from by (drop i entries) (changed (Admit effects) s) admitted ≡ ship_from by (drop (i + 1) entries) (changed (Admit (effects ++ effects_of by e.op e.reply)) s) (admitted ++ item_of by e ∷ [])
ship_more by entries i e effects admitted s h is mine none =
    ap (λ es. ship_from by es (changed (Admit effects) s) admitted) (drop_more entries i e h)
    ∙ ap (λ x. ship_from by (x ∷ drop (i + 1) entries) (changed (Admit effects) s) admitted) (sym is)
    ∙ entry_taken by e (drop (i + 1) entries) (changed (Admit effects) s) admitted mine none
    ∙ sym (ap (λ t. ship_from by (drop (i + 1) entries) t (admitted ++ item_of by e ∷ [])) (admit-append by e effects s))

-- a plan that admits such effects can be carried out
pub admit_can : (d : Decided) (effects : List Effect) (s : Server) → list_all is_undoable effects ≡ true → IsReady s → d.change ≡ Admit effects → CanDecide d s
admit_can d effects s h r e = record {
  change = subst (λ ch. CanChange ch s) (sym e) h;
  ready = subst (λ ch. IsReady (changed ch s)) (sym e) (with_others s s.rows (records_after_all s.records effects) s.map r r.server.numbers r.table);
}
