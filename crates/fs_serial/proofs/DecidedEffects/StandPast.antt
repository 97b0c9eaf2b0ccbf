-- What servers apply while decided effects are on their way.
use Rattle.std.proofs.Common.{◌≡◌, ℕ, List, sym, subst}
use Rattle.fs_ident.specs.In.{In}
use Rattle.fs_field.specs.declared.effect.Effect.{Effect}
use Rattle.fs_msg.specs.declared.item.Item.{Item}
use Rattle.fs_record.specs.Applied.{records_after_all}
use Rattle.fs_record.specs.Records.{RecordMap, nodes_of}
use Rattle.fs_record.proofs.AllApplied.{after_all_kept}
use Rattle.fs_server.specs.declared.state.Server.{Server}
use Rattle.fs_txn.specs.Decided.{IsApart, held_with}
use Rattle.fs_txn.specs.Grants.{Decided, effects_in}
use Rattle.fs_txn.proofs.Past.{all_past}
use Rattle.fs_serial.specs.Decided.{AllDecidedStand}
use Rattle.fs_serial.specs.Fresh.{IsMade}
use Rattle.fs_serial.specs.Sight.{seen}
use Rattle.fs_serial.proofs.DecidedEffects.GrantsPast.{all_decided}
use Rattle.fs_serial.proofs.DecidedEffects.Underway.{PlaceStays, are_apart, going_past, locks_stay, place_past, stands_then}

-- each decided effect is apart from each that is applied
abbrev pub AllApart : List Decided → List Effect → Type 0
AllApart ds es = (d : Decided) → In d ds → (e : Effect) → In e es → IsApart d.effect e

module _ (ds : List Decided) (s : Server) (journal : List Item) (all : AllDecidedStand ds s journal) (es : List Effect) (apart : AllApart ds es) where
  -- what all hold together changes by the same effects
  pub held_past : held_with (effects_in ds) (records_after_all s.records es) ≡ records_after_all (seen ds s).records es
  held_past = all_past s.records (effects_in ds) es all.records (all_decided ds s journal all) (are_apart ds es apart)

  pub stand_past : (more : List Item) → ((id : List ℕ) → IsMade journal id → IsMade more id) → AllDecidedStand ds (record s { records = records_after_all s.records es }) more
  stand_past more grows = record {
    records = after_all_kept s.records es all.records;
    stand = λ d i. stands_then s.rows s.rows s.records (records_after_all s.records es) (nodes_of (seen ds s).records) (nodes_of (held_with (effects_in ds) (records_after_all s.records es))) journal more d
        (locks_stay d.by s.rows)
        (subst (λ (m : RecordMap). PlaceStays (nodes_of (seen ds s).records) (nodes_of m) d.effect) (sym held_past) (place_past (seen ds s).records d.effect es (apart d i)))
        (going_past s.records d.effect es (apart d i)) grows (all.stand d i);
  }
