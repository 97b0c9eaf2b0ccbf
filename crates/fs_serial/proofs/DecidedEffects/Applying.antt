-- A part applies what was decided for it: what all hold together is what it was.
use Rattle.std.proofs.Common.{◌≡◌, ◌==◌, ℕ, Bool, true, false, List, ◌++◌, refl, sym, ap, ◌∙◌, subst, inl, inr}
use Rattle.std.proofs.lemmas.List.{map-append}
use Rattle.fs_ident.specs.In.{In}
use Rattle.fs_ident.proofs.Standing.{In-append, In-behind, In-front, In-map}
use Rattle.fs_model.specs.Namespace.{NodeMap}
use Rattle.fs_record.specs.Applied.{records_after_all}
use Rattle.fs_record.specs.Records.{RecordMap, nodes_of}
use Rattle.fs_record.proofs.AllApplied.{after_all_kept}
use Rattle.fs_server.specs.declared.state.Server.{Server}
use Rattle.fs_txn.specs.Decided.{IsApart, held_with}
use Rattle.fs_txn.specs.Grants.{Decided, effects_in}
use Rattle.fs_txn.proofs.Guarded.{guarded_apart}
use Rattle.fs_txn.proofs.Past.{decide_past}
use Rattle.fs_serial.specs.Decided.{DecideKeepsAll, DecidedFits, IsOwnApart, WorldStands, after_decide}
use Rattle.fs_serial.specs.Fresh.{FreshReserved, reserved_by}
use Rattle.fs_serial.specs.Parts.{AllHold}
use Rattle.fs_serial.specs.Sight.{seen, sight_beside}
use Rattle.fs_serial.specs.World.{World, WorldHolds, settled_at, sight_in}
use Rattle.fs_serial.proofs.DecidedEffects.FewerDirectories.{fewer_held, reserved_there}
use Rattle.fs_serial.proofs.DecidedEffects.StandPast.{AllApart}
use Rattle.fs_serial.proofs.OneServer.LeaseChanges.{all_restored}
use Rattle.fs_serial.proofs.DecidedEffects.Underway.{PlaceStays, are_apart, are_decided, effect_of, going_past, locks_stay, place_same, stands_then}

module _ (greatest : ℕ) (w : World) (front its back : List Decided) (whole : w.decided ≡ front ++ (its ++ back)) (own : IsOwnApart (front ++ back) its) (h : WorldStands greatest w) where
  abbrev s : Server
  s = w.server

  abbrev f : DecidedFits w
  f = h.1

  abbrev held : NodeMap
  held = nodes_of (seen w.decided s).records

  abbrev then : RecordMap
  then = records_after_all s.records (effects_in its)

  its_there : (d : Decided) → In d its → In d w.decided
  its_there d i = subst (In d) (sym whole) (In-behind d front (its ++ back) (In-front d its back i))

  others_there : (d : Decided) → In d (front ++ back) → In d w.decided
  others_there d i = subst (In d) (sym whole) (elim (In-append d front back i) as (λ _. In d (front ++ (its ++ back))) [
    | inl j ↦ In-front d front (its ++ back) j
    | inr j ↦ In-behind d front (its ++ back) (In-behind d its back j)
  ])

  -- each that stays is apart from each that is applied: by its guards, where it was decided for another session
  one_apart : (d e : Decided) → In d (front ++ back) → In e its → IsApart d.effect e.effect
  one_apart d e i j = by (d.by.0 == e.by.0) refl
    where
      by : (b : Bool) → (d.by.0 == e.by.0) ≡ b → IsApart d.effect e.effect
      by true t = own d e i j t
      by false t = guarded_apart s.rows held d.by e.by d.effect e.effect h.0.all.servers.apart t (f.all.stand d (others_there d i)).guarded (f.all.stand e (its_there e j)).guarded

  pub apart : AllApart (front ++ back) (effects_in its)
  apart d i e j = let q = In-map effect_of e its j in subst (IsApart d.effect) (sym q.1.1) (one_apart d q.0 i q.1.0)

  split : effects_in (front ++ (its ++ back)) ≡ effects_in front ++ (effects_in its ++ effects_in back)
  split = map-append effect_of front (its ++ back) ∙ ap (λ xs. effects_in front ++ xs) (map-append effect_of its back)

  -- the sight is the same
  pub same_held : held_with (effects_in (front ++ back)) then ≡ (seen w.decided s).records
  same_held =
      ap (λ es. held_with es then) (map-append effect_of front back)
      ∙ decide_past s.records (effects_in front) (effects_in its) (effects_in back) f.all.records
      (are_decided front (λ d i. (f.all.stand d (others_there d (In-front d front back i))).decided))
      (are_apart front (effects_in its) (λ d i e j. apart d (In-front d front back i) e j))
      ∙ ap (λ es. held_with es s.records) (sym split)
      ∙ ap (λ ds. held_with (effects_in ds) s.records) (sym whole)

  -- fewer directories are stored then
  reserved_then : FreshReserved (reserved_by (λ x. settled_at x (w.ends x))) then w.journal
  reserved_then =
      reserved_there (reserved_by (λ x. settled_at x (w.ends x))) s.records then w.journal
      (fewer_held s.records (effects_in its) (are_decided its (λ d i. (f.all.stand d (its_there d i)).decided))) h.0.all.reserved

  decide_holds : WorldHolds greatest (after_decide front its back w)
  decide_holds = record {
    all = subst (λ (m : RecordMap). AllHold s.skew greatest (sight_beside then w.counts (record s { records = m }) w.journal) w.replied (λ x. settled_at x (w.ends x))) (sym same_held)
        (all_restored s.skew greatest (sight_in w) then w.replied w.ends (λ x. settled_at x (w.ends x)) reserved_then h.0.all);
    clock = h.0.clock;
    clients = h.0.clients;
    exchanges = h.0.exchanges;
  }

  decide_fits : DecidedFits (after_decide front its back w)
  decide_fits = record {
    all = record {
      records = after_all_kept s.records (effects_in its) f.all.records;
      stand = λ d i. stands_then s.rows s.rows s.records then held (nodes_of (held_with (effects_in (front ++ back)) then)) w.journal w.journal d
          (locks_stay d.by s.rows)
          (subst (λ (m : RecordMap). PlaceStays held (nodes_of m) d.effect) (sym same_held) (place_same held d.effect))
          (going_past s.records d.effect (effects_in its) (λ e j. apart d i e j)) (λ id was. was) (f.all.stand d (others_there d i));
    };
    owed = λ d i e. f.owed d (others_there d i) e;
  }

  pub decide_keeps : WorldStands greatest (after_decide front its back w)
  decide_keeps = (decide_holds, decide_fits)

pub decide_all : DecideKeepsAll
decide_all greatest w front its back whole own h = (same_held greatest w front its back whole own h, decide_keeps greatest w front its back whole own h)
