-- What is so of a question, of a log and of a turn: said of one item, entry or session after another.
use Rattle.std.proofs.Common.{◌≡◌, ℕ, ◌+◌, Bool, true, false, List, [], ◌∷◌, ◌++◌, map, refl, sym, subst}
use Rattle.std.specs.Prelude.{Option, Some, None}
use Rattle.fs_ident.specs.declared.actor.LeaseNo.{LeaseNo}
use Rattle.fs_ident.specs.declared.actor.Session.{Session}
use Rattle.fs_ident.specs.declared.actor.TxnNo.{TxnNo}
use Rattle.fs_field.specs.Field.{file_of}
use Rattle.fs_field.specs.declared.asked.Asked.{Asked}
use Rattle.fs_field.specs.declared.asked.Asked.TheVariants.{Granted, Wait, Locked}
use Rattle.fs_field.specs.declared.field.Field.{Field}
use Rattle.fs_field.specs.declared.lease_kind.LeaseKind.{LeaseKind}
use Rattle.fs_field.specs.declared.used.Use.{Use}
use Rattle.fs_moderows.specs.Answer.{reap_blocker}
use Rattle.fs_msg.specs.declared.answer.Grant.{Grant}
use Rattle.fs_msg.specs.declared.end.End.{End}
use Rattle.fs_msg.specs.declared.end.End.TheVariants as end
use Rattle.fs_msg.specs.declared.entry.Entry.{Entry}
use Rattle.fs_msg.specs.declared.item.Item.{Item}
use Rattle.fs_model.specs.Asking.{home_of}
use Rattle.fs_record.specs.ValueOf.{selves_in}
use Rattle.fs_server.specs.Asks.{Asking, answer_to, ask_from, grant_of, kind_for, with_lease}
use Rattle.fs_server.specs.Reaps.{Reaping, reap_from, reap_item, with_blocker, with_reap}
use Rattle.fs_server.specs.Server.{is_mine, moved}
use Rattle.fs_server.specs.Ships.{Shipping, first_gone, item_of, ship_from, with_entry}
use Rattle.fs_server.specs.declared.state.Server.{Server}

-- ## The items of a question

abbrev pub Items : Type 0
Items = List (Field × LeaseKind)

-- the item's answer, and what is so where its lease is given
abbrev pub answer_at : Session → Field × LeaseKind → Server → Asked
answer_at by x s = answer_to by x.0 (kind_for x.0 x.1) s

abbrev pub with_item : Session → Field × LeaseKind → Option Bool → Server → Server
with_item by x promise s = with_lease by x.0 (kind_for x.0 x.1) promise s

abbrev pub with_grant : Session → Field × LeaseKind → Server → List Grant → List Grant
with_grant by x s grants = grants ++ grant_of by x.0 (kind_for x.0 x.1) s ∷ []

-- the question ends at this item: its lease is in the way of another's, a transaction keeps it, or another server has its file
pub data AskEnds (by : Session) (x : Field × LeaseKind) (s : Server) : End → Type 0 where
  waits : (n : LeaseNo) → is_mine s (file_of x.0) ≡ true → answer_at by x s ≡ Wait n → AskEnds by x s (end.Wait n)
  kept_off : (txn : TxnNo) → is_mine s (file_of x.0) ≡ true → answer_at by x s ≡ Locked txn → AskEnds by x s (end.Locked txn)
  elsewhere : is_mine s (file_of x.0) ≡ false → AskEnds by x s (moved s (file_of x.0))

pub item_given : (by : Session) (x : Field × LeaseKind) (xs : Items) (s : Server) (grants : List Grant) (promise : Option Bool) → is_mine s (file_of x.0) ≡ true → answer_at by x s ≡ Granted promise → ask_from by (x ∷ xs) s grants ≡ ask_from by xs (with_item by x promise s) (with_grant by x s grants)
item_given by x xs s grants promise mine e = rw (mine, e, ask_from) refl

pub ask_ends : (by : Session) (x : Field × LeaseKind) (xs : Items) (s : Server) (grants : List Grant) (at : End) → AskEnds by x s at → ask_from by (x ∷ xs) s grants ≡ record { server = s; grants = grants; fresh = None; end = at }
ask_ends by x xs s grants at (waits n mine e) = rw (mine, e, ask_from) refl
ask_ends by x xs s grants at (kept_off txn mine e) = rw (mine, e, ask_from) refl
ask_ends by x xs s grants at (elsewhere mine) = rw (mine, ask_from) refl

module _ (by : Session) (P : Items → Server → List Grant → Asking → Type 0)
    (none : (s : Server) (grants : List Grant) → P [] s grants (record { server = s; grants = grants; fresh = None; end = end.All }))
    (given : (x : Field × LeaseKind) (xs : Items) (s : Server) (grants : List Grant) (promise : Option Bool) (a : Asking) → is_mine s (file_of x.0) ≡ true → answer_at by x s ≡ Granted promise → P xs (with_item by x promise s) (with_grant by x s grants) a → P (x ∷ xs) s grants a)
    (ends : (x : Field × LeaseKind) (xs : Items) (s : Server) (grants : List Grant) (at : End) → AskEnds by x s at → P (x ∷ xs) s grants (record { server = s; grants = grants; fresh = None; end = at })) where
  pub each_item : (items : Items) (s : Server) (grants : List Grant) → P items s grants (ask_from by items s grants)
  each_item [] s grants = none s grants
  each_item (x ∷ xs) s grants = one (is_mine s (file_of x.0)) refl (answer_at by x s) refl (λ promise. each_item xs (with_item by x promise s) (with_grant by x s grants))
    where
      ended : (at : End) → AskEnds by x s at → P (x ∷ xs) s grants (ask_from by (x ∷ xs) s grants)
      ended at why = subst (P (x ∷ xs) s grants) (sym (ask_ends by x xs s grants at why)) (ends x xs s grants at why)

      one : (mine : Bool) → is_mine s (file_of x.0) ≡ mine → (asked : Asked) → answer_at by x s ≡ asked → ((promise : Option Bool) → P xs (with_item by x promise s) (with_grant by x s grants) (ask_from by xs (with_item by x promise s) (with_grant by x s grants))) → P (x ∷ xs) s grants (ask_from by (x ∷ xs) s grants)
      one true m (Granted promise) e more = subst (P (x ∷ xs) s grants) (sym (item_given by x xs s grants promise m e)) (given x xs s grants promise (ask_from by xs (with_item by x promise s) (with_grant by x s grants)) m e (more promise))
      one true m (Wait n) e more = ended (end.Wait n) (waits n m e)
      one true m (Locked txn) e more = ended (end.Locked txn) (kept_off txn m e)
      one false m asked e more = ended (moved s (file_of x.0)) (elsewhere m)

-- a question changes the rows, and what was given
pub asks_leave : (by : Session) (items : Items) (s : Server) (grants : List Grant) → (ask_from by items s grants).server ≡ record s { given = (ask_from by items s grants).server.given; rows = (ask_from by items s grants).server.rows }
asks_leave by = each_item by (λ items s grants a. a.server ≡ record s { given = a.server.given; rows = a.server.rows }) (λ s grants. refl) (λ x xs s grants promise a mine e p. p) (λ x xs s grants at why. refl)

-- ## The entries of a log

-- the log ends at this entry: a row of a lease that it used is gone, and those behind it are held back, or another server has its file
pub data ShipEnds (by : Session) (e : Entry) (es : List Entry) (s : Server) : End → List ℕ → Type 0 where
  refused : (u : Use) → is_mine s (home_of e.op) ≡ true → first_gone s.rows by e.uses ≡ Some u → ShipEnds by e es s (end.Ended e.n u.no u.until s.last) (map (λ (x : Entry). x.n) es)
  misplaced : is_mine s (home_of e.op) ≡ false → ShipEnds by e es s (moved s (home_of e.op)) []

pub entry_taken : (by : Session) (e : Entry) (es : List Entry) (s : Server) (admitted : List Item) → is_mine s (home_of e.op) ≡ true → first_gone s.rows by e.uses ≡ None → ship_from by (e ∷ es) s admitted ≡ ship_from by es (with_entry by e s) (admitted ++ item_of by e ∷ [])
entry_taken by e es s admitted mine h = rw (mine, h, ship_from) refl

pub ship_ends : (by : Session) (e : Entry) (es : List Entry) (s : Server) (admitted : List Item) (at : End) (gaps : List ℕ) → ShipEnds by e es s at gaps → ship_from by (e ∷ es) s admitted ≡ record { server = s; admitted = admitted; end = at; gaps = gaps }
ship_ends by e es s admitted at gaps (refused u mine h) = rw (mine, h, ship_from) refl
ship_ends by e es s admitted at gaps (misplaced mine) = rw (mine, ship_from) refl

module _ (by : Session) (P : List Entry → Server → List Item → Shipping → Type 0)
    (none : (s : Server) (admitted : List Item) → P [] s admitted (record { server = s; admitted = admitted; end = end.All; gaps = [] }))
    (taken : (e : Entry) (es : List Entry) (s : Server) (admitted : List Item) (x : Shipping) → is_mine s (home_of e.op) ≡ true → first_gone s.rows by e.uses ≡ None → P es (with_entry by e s) (admitted ++ item_of by e ∷ []) x → P (e ∷ es) s admitted x)
    (ends : (e : Entry) (es : List Entry) (s : Server) (admitted : List Item) (at : End) (gaps : List ℕ) → ShipEnds by e es s at gaps → P (e ∷ es) s admitted (record { server = s; admitted = admitted; end = at; gaps = gaps })) where
  pub each_entry : (es : List Entry) (s : Server) (admitted : List Item) → P es s admitted (ship_from by es s admitted)
  each_entry [] s admitted = none s admitted
  each_entry (e ∷ es) s admitted = one (is_mine s (home_of e.op)) refl (first_gone s.rows by e.uses) refl (each_entry es (with_entry by e s) (admitted ++ item_of by e ∷ []))
    where
      ended : (at : End) (gaps : List ℕ) → ShipEnds by e es s at gaps → P (e ∷ es) s admitted (ship_from by (e ∷ es) s admitted)
      ended at gaps why = subst (P (e ∷ es) s admitted) (sym (ship_ends by e es s admitted at gaps why)) (ends e es s admitted at gaps why)

      one : (mine : Bool) → is_mine s (home_of e.op) ≡ mine → (gone : Option Use) → first_gone s.rows by e.uses ≡ gone → P es (with_entry by e s) (admitted ++ item_of by e ∷ []) (ship_from by es (with_entry by e s) (admitted ++ item_of by e ∷ [])) → P (e ∷ es) s admitted (ship_from by (e ∷ es) s admitted)
      one true m None h more = subst (P (e ∷ es) s admitted) (sym (entry_taken by e es s admitted m h)) (taken e es s admitted (ship_from by es (with_entry by e s) (admitted ++ item_of by e ∷ [])) m h more)
      one true m (Some u) h more = ended (end.Ended e.n u.no u.until s.last) (map (λ (x : Entry). x.n) es) (refused u m h)
      one false m used h more = ended (moved s (home_of e.op)) [] (misplaced m)

-- a log changes the records alone
pub ships_leave : (by : Session) (es : List Entry) (s : Server) (admitted : List Item) → (ship_from by es s admitted).server ≡ record s { records = (ship_from by es s admitted).server.records }
ships_leave by = each_entry by (λ es s admitted x. x.server ≡ record s { records = x.server.records }) (λ s admitted. refl) (λ e es s admitted x mine h p. p) (λ e es s admitted at gaps why. refl)

-- ## The sessions of a turn

abbrev pub Lapsed : Type 0
Lapsed = List (List ℕ × Session)

module _ (f : List ℕ) (x : Session) (xs : Lapsed) (s : Server) (admitted : List Item) (blockers : List LeaseNo) where
  pub reap_done : reap_blocker (selves_in s.records f) s.rows x f ≡ None → reap_from ((f, x) ∷ xs) s admitted blockers ≡ reap_from xs (with_reap f x s) (admitted ++ reap_item s.me (s.reaps + 1) f x ∷ []) blockers
  reap_done h = rw (h, reap_from) refl

  pub reap_kept_off : (number : LeaseNo) → reap_blocker (selves_in s.records f) s.rows x f ≡ Some number → reap_from ((f, x) ∷ xs) s admitted blockers ≡ reap_from xs s admitted (with_blocker number blockers)
  reap_kept_off number h = rw (h, reap_from) refl

module _ (P : Lapsed → Server → List Item → List LeaseNo → Reaping → Type 0)
    (none : (s : Server) (admitted : List Item) (blockers : List LeaseNo) → P [] s admitted blockers (record { server = s; admitted = admitted; blockers = blockers }))
    (done : (f : List ℕ) (x : Session) (xs : Lapsed) (s : Server) (admitted : List Item) (blockers : List LeaseNo) (r : Reaping) → reap_blocker (selves_in s.records f) s.rows x f ≡ None → P xs (with_reap f x s) (admitted ++ reap_item s.me (s.reaps + 1) f x ∷ []) blockers r → P ((f, x) ∷ xs) s admitted blockers r)
    (off : (f : List ℕ) (x : Session) (xs : Lapsed) (s : Server) (admitted : List Item) (blockers : List LeaseNo) (r : Reaping) (number : LeaseNo) → reap_blocker (selves_in s.records f) s.rows x f ≡ Some number → P xs s admitted (with_blocker number blockers) r → P ((f, x) ∷ xs) s admitted blockers r) where
  pub each_lapsed : (xs : Lapsed) (s : Server) (admitted : List Item) (blockers : List LeaseNo) → P xs s admitted blockers (reap_from xs s admitted blockers)
  each_lapsed [] s admitted blockers = none s admitted blockers
  each_lapsed (x ∷ xs) s admitted blockers = one (reap_blocker (selves_in s.records x.0) s.rows x.1 x.0) refl (each_lapsed xs (with_reap x.0 x.1 s) (admitted ++ reap_item s.me (s.reaps + 1) x.0 x.1 ∷ []) blockers) (λ number. each_lapsed xs s admitted (with_blocker number blockers))
    where
      one : (o : Option LeaseNo) → reap_blocker (selves_in s.records x.0) s.rows x.1 x.0 ≡ o
          → P xs (with_reap x.0 x.1 s) (admitted ++ reap_item s.me (s.reaps + 1) x.0 x.1 ∷ []) blockers (reap_from xs (with_reap x.0 x.1 s) (admitted ++ reap_item s.me (s.reaps + 1) x.0 x.1 ∷ []) blockers)
          → ((number : LeaseNo) → P xs s admitted (with_blocker number blockers) (reap_from xs s admitted (with_blocker number blockers))) → P (x ∷ xs) s admitted blockers (reap_from (x ∷ xs) s admitted blockers)
      one None e here there = subst (P (x ∷ xs) s admitted blockers) (sym (reap_done x.0 x.1 xs s admitted blockers e)) (done x.0 x.1 xs s admitted blockers (reap_from xs (with_reap x.0 x.1 s) (admitted ++ reap_item s.me (s.reaps + 1) x.0 x.1 ∷ []) blockers) e here)
      one (Some number) e here there = subst (P (x ∷ xs) s admitted blockers) (sym (reap_kept_off x.0 x.1 xs s admitted blockers number e)) (off x.0 x.1 xs s admitted blockers (reap_from xs s admitted (with_blocker number blockers)) number e (there number))

-- a turn changes the records, and how many reaps there were
pub reaps_leave : (xs : Lapsed) (s : Server) (admitted : List Item) (blockers : List LeaseNo) → (reap_from xs s admitted blockers).server ≡ record s { reaps = (reap_from xs s admitted blockers).server.reaps; records = (reap_from xs s admitted blockers).server.records }
reaps_leave = each_lapsed (λ xs s admitted blockers r. r.server ≡ record s { reaps = r.server.reaps; records = r.server.records }) (λ s admitted blockers. refl) (λ f x xs s admitted blockers r e p. p) (λ f x xs s admitted blockers r number e p. p)
