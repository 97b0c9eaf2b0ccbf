-- The locked rows of a session, where others renew leases or give them back, and where rows lapse.
use Rattle.std.proofs.Common.{◌≡◌, ℕ, ◌==◌, ◌&&◌, not, nat_lt, Bool, true, false, List, [], ◌∷◌, cond, map, refl, sym, ap, ◌∙◌, inl, inr}
use Rattle.std.specs.Prelude.{is_some}
use Rattle.std.specs.List.{filter}
use Rattle.fs_ident.specs.In.{In}
use Rattle.fs_ident.specs.declared.actor.LeaseNo.{LeaseNo}
use Rattle.fs_ident.specs.declared.actor.Session.{Session}
use Rattle.fs_ident.proofs.Same.{itself}
use Rattle.fs_ident.proofs.Standing.{In-filter, In-mapped}
use Rattle.fs_field.specs.Table.{has_no, renewed_row}
use Rattle.fs_field.specs.declared.row.Row.{Row}
use Rattle.fs_field.proofs.Leases.{renewed_same}
use Rattle.fs_field.proofs.SameNo.{same_no_is}
use Rattle.fs_model.specs.Namespace.{NodeMap}
use Rattle.fs_msg.specs.declared.item.Item.{Item}
use Rattle.fs_record.specs.Records.{nodes_of}
use Rattle.fs_server.specs.Pairs.{released_rows, renewed_rows}
use Rattle.fs_server.specs.declared.state.Server.{Server}
use Rattle.fs_txn.specs.Grants.{Decided}
use Rattle.fs_serial.specs.Decided.{AllDecidedStand}
use Rattle.fs_serial.specs.Sight.{seen}
use Rattle.fs_serial.proofs.Grants.RowKinds.{In-kept}
use Rattle.fs_serial.proofs.DecidedEffects.Underway.{LocksStay, going_same, locks_stay, locks_then, place_same, stands_then}

pub renewed_lock : (n : LeaseNo) (until : ℕ) (r : Row) → (renewed_row n until r).lock ≡ r.lock
renewed_lock n until r = by (has_no n r && nat_lt r.until until)
  where
    by : (b : Bool) → (let y : Row = cond b (record r { until = until }) r in y).lock ≡ r.lock
    by true = refl
    by false = refl

-- a renewal leaves locks
pub renewed_locks : (x : Session) (until : ℕ) (ns : List LeaseNo) (rows : List Row) → LocksStay x rows (renewed_rows until ns rows)
renewed_locks x until [] rows = locks_stay x rows
renewed_locks x until (n ∷ ns) rows = locks_then x rows (map (renewed_row n until) rows) (renewed_rows until ns (map (renewed_row n until) rows))
    (λ r i own l. record {
      row = renewed_row n until r;
      stands = In-mapped (renewed_row n until) r rows i;
      session = (renewed_same n until r).session;
      field = (renewed_same n until r).field;
      kind = (renewed_same n until r).kind;
      lock = ap is_some (renewed_lock n until r) ∙ l;
    })
    (renewed_locks x until ns (map (renewed_row n until) rows))

-- rows go, but those of the session
pub kept_locks : (x : Session) (test : Row → Bool) (rows : List Row) → ((r : Row) → In r rows → r.session ≡ x → is_some r.lock ≡ true → test r ≡ true) → LocksStay x rows (filter test rows)
kept_locks x test rows stays r i own l = record { row = r; stands = In-kept test r rows i (stays r i own l); session = refl; field = refl; kind = refl; lock = l }

-- another session's rows are given back
module _ (x by : Session) (other : (x.0 == by.0) ≡ false) where
  not_its : (n : LeaseNo) (r : Row) → (r.no ≡ n → r.session ≡ by) → r.session ≡ x → not (has_no n r) ≡ true
  not_its n r its own = off (has_no n r) refl
    where
      off : (b : Bool) → has_no n r ≡ b → not b ≡ true
      off true t =
          let same : x ≡ by = sym own ∙ its (same_no_is r.no n t) in
          let wrong : true ≡ false = sym (itself x.0) ∙ ap (λ (s : Session). x.0 == s.0) same ∙ other in
          absurd (cc)
      off false t = refl

  pub released_locks : (ns : List LeaseNo) (rows : List Row) → ((n : LeaseNo) → In n ns → (r : Row) → In r rows → r.no ≡ n → r.session ≡ by) → LocksStay x rows (released_rows ns rows)
  released_locks [] rows its = locks_stay x rows
  released_locks (n ∷ ns) rows its = locks_then x rows (filter (λ r. not (has_no n r)) rows) (released_rows ns (filter (λ r. not (has_no n r)) rows))
      (kept_locks x (λ r. not (has_no n r)) rows (λ r i own l. not_its n r (its n (inl refl) r i) own))
      (released_locks ns (filter (λ r. not (has_no n r)) rows) (λ k j r i. its k (inr j) r (In-filter (λ y. not (has_no n y)) r rows i)))

-- what is decided stands where these rows stay locked
pub stand_rows : (ds : List Decided) (s : Server) (journal : List Item) (rows : List Row) → ((d : Decided) → In d ds → LocksStay d.by s.rows rows) → AllDecidedStand ds s journal → AllDecidedStand ds (record s { rows = rows }) journal
stand_rows ds s journal rows stay all =
    let held : NodeMap = nodes_of (seen ds s).records in
    record {
      records = all.records;
      stand = λ d i. stands_then s.rows rows s.records s.records held held journal journal d (stay d i) (place_same held d.effect) (going_same s.records s.records d.effect (λ f. refl)) (λ id was. was) (all.stand d i);
    }
