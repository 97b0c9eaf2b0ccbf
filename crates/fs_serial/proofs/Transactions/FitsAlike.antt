-- What is decided fits a world as it fits another one in which the same stands.
use Rattle.std.proofs.Common.{◌≡◌, ℕ, ◌≤◌, List, sym, ap, ◌∙◌, subst}
use Rattle.fs_ident.specs.In.{In}
use Rattle.fs_ident.specs.declared.actor.Session.{Session}
use Rattle.fs_field.specs.declared.row.Row.{Row}
use Rattle.fs_msg.specs.declared.item.Item.{Item}
use Rattle.fs_record.specs.Records.{AreRecords, RecordMap, nodes_of}
use Rattle.fs_txn.specs.Decided.{held_with}
use Rattle.fs_txn.specs.Grants.{Decided, effects_in}
use Rattle.fs_serial.specs.Decided.{DecidedFits, DecidedStands, WorldStands}
use Rattle.fs_serial.specs.Exchange.{due}
use Rattle.fs_serial.specs.World.{Ends, World}
use Rattle.fs_serial.proofs.WholeRuns.Views.{AreAlike, alike_holds}

-- all that is decided stands where these rows and records do
abbrev AllStand : List Decided → List Row → RecordMap → List Item → Type 0
AllStand ds rows m journal = (d : Decided) → In d ds → DecidedStands rows m (nodes_of (held_with (effects_in ds) m)) journal d

pub fits_alike : (w v : World) → v.decided ≡ w.decided → v.server.rows ≡ w.server.rows → v.server.records ≡ w.server.records
    → v.journal ≡ w.journal → ((x : Session) → v.ends x ≡ w.ends x) → DecidedFits w → DecidedFits v
fits_alike w v decided rows records journal ends f = record {
  all = record {
    records = subst AreRecords (sym records) f.all.records;
    stand = subst (λ ds. AllStand ds v.server.rows v.server.records v.journal) (sym decided)
        (subst (λ x. AllStand w.decided x v.server.records v.journal) (sym rows)
        (subst (λ x. AllStand w.decided w.server.rows x v.journal) (sym records)
        (subst (λ x. AllStand w.decided w.server.rows w.server.records x) (sym journal) f.all.stand)));
  };
  owed = λ d i e. f.owed d (subst (In d) decided i) (ap (λ (x : Ends). due x.down) (sym (ends d.by)) ∙ e);
}

pub stands_alike : (greatest : ℕ) (w v : World) → AreAlike w v → v.decided ≡ w.decided → v.server.last ≤ greatest → WorldStands greatest w → WorldStands greatest v
stands_alike greatest w v q decided clock h =
    (alike_holds greatest w v q clock h.0, fits_alike w v decided q.rows q.stored q.journal q.ends h.1)
