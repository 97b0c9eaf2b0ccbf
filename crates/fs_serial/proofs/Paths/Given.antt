-- Leases stay true where a path is asked for, given out or denied, and where one comes.
use Rattle.std.proofs.Common.{◌≡◌, ◌∙◌, Bool, true, false, List, [], ◌∷◌, ℕ, ◌==◌, reverse, refl, sym, ap, subst, cond, inl, inr}
use Rattle.std.specs.Prelude.{Option, Some, None, is_some, slice_get}
use Rattle.std.specs.FinMap.{get}
use Rattle.std.specs.List.{list_any}
use Rattle.fs_ident.specs.In.{In}
use Rattle.fs_ident.specs.Ident.{same}
use Rattle.fs_ident.specs.declared.actor.PathNo.{PathNo}
use Rattle.fs_ident.specs.declared.actor.TxnNo.{TxnNo}
use Rattle.fs_ident.specs.declared.kind.Kind.TheVariants.{Dir}
use Rattle.fs_ident.proofs.Standing.{In-put}
use Rattle.fs_field.specs.declared.path.PathAnswer.{PathAnswer}
use Rattle.fs_field.specs.declared.path.PathAnswer.TheVariants as answer
use Rattle.fs_map.specs.Map.{longest}
use Rattle.fs_model.specs.Step.{children_of}
use Rattle.fs_msg.specs.declared.item.Item.{Item}
use Rattle.fs_msg.specs.declared.peer_msg.PeerMsg.TheVariants as peer
use Rattle.fs_msg.specs.declared.server_note.ServerNote.TheVariants as note
use Rattle.fs_path.specs.Leases.{PathLease, path_before}
use Rattle.fs_path.specs.Tables.{frozen_for, holds, lease_of, with_held}
use Rattle.fs_path.specs.declared.having.Having.{Having}
use Rattle.fs_path.specs.declared.having.Having.TheVariants.{Held}
use Rattle.fs_record.specs.Records.{RecordMap, node_of}
use Rattle.fs_record.specs.declared.record.Record.{Record}
use Rattle.fs_record.specs.declared.led_end.Why.{Why}
use Rattle.fs_record.specs.declared.led_end.Why.TheVariants as why
use Rattle.fs_server.specs.Follows.{to_server}
use Rattle.fs_server.specs.Leads.{moved_why}
use Rattle.fs_server.specs.PathSteps.{answers_path, asks_above, denies, dir_here, fails_path, gives_path, has_child, is_same_dir, keeps_path}
use Rattle.fs_server.specs.PathSteps.{last_dir, lease_to, moved_path, path_ask_step, path_grant_step, path_here, path_no_step, sends, unless_kept, with_held_path, with_path, without_asking}
use Rattle.fs_server.specs.Server.{Stepped, is_mine, strange}
use Rattle.fs_server.specs.declared.state.Server.{Server}
use Rattle.fs_serial.specs.Cluster.{Cluster}
use Rattle.fs_serial.specs.Fresh.{made}
use Rattle.fs_serial.specs.Paths.{Avoids, BeginsWith, IsChainUp, IsSupported, IsTruePath, PathsHold, PathsStand, has_record, is_kept, upwards}
use Rattle.fs_serial.specs.Runs.{held_by}
use Rattle.fs_serial.proofs.Grants.Leased.{In-put_still}
use Rattle.fs_serial.proofs.Paths.Alike.{keeps_same, true_alike}
use Rattle.fs_serial.proofs.Paths.Chains.{In_up, chain_below, chain_dirs, turned_last}
use Rattle.fs_serial.proofs.Paths.SameSpace.{KeepsTrue, stays_true}
use Rattle.fs_serial.proofs.Paths.Taken.{IsGood, taken_good, wanted_made}
use Rattle.fs_ident.proofs.Standing.{In-got}

-- ## One is given out

-- a lease for a file of the directory that this list goes up from
module _ (m : RecordMap) (journal : List Item) (s : Server) (l : PathLease) (d : List ℕ) (up : List (List ℕ)) (whole : upwards l ≡ l.file ∷ up)
    (good : IsGood m s d up) (place : dir_here m l.file ≡ Some d)
    (here : has_record s d ≡ true) (free : is_kept s l.file ≡ false)
    (dirs : (f d : List ℕ) → dir_here m f ≡ Some d → made journal d ≡ Some Dir) (own : made journal l.file ≡ Some Dir) where
  rests_there : (rest : List (List ℕ)) → IsGood m s d rest → IsSupported s (l.file ∷ rest)
  rests_there [] r = r.begins
  rests_there (g ∷ gs) r = (ap (has_record s) r.begins ∙ here, r.rests)

  all_dirs : (f : List ℕ) → In f (l.file ∷ up) → made journal f ≡ Some Dir
  all_dirs f (inl e) = ap (made journal) e ∙ own
  all_dirs f (inr i) = chain_dirs m journal dirs d up (dirs l.file d place) good.chain good.begins f i

  avoids_it : (f : List ℕ) → is_kept s f ≡ true → Avoids s f (l.file ∷ up)
  avoids_it f z = (λ e. (let wrong : true ≡ false = sym z ∙ ap (is_kept s) (sym e) ∙ free in absurd (cc wrong)), good.free f z)

  pub new_true : IsTruePath m journal s l
  new_true = record {
    begins = subst (BeginsWith l.file) (sym whole) refl;
    chain = subst (IsChainUp m) (sym whole) (chain_below m l.file d up place good.chain good.begins);
    dirs = λ f i. all_dirs f (subst (In f) whole (In_up l f i));
    supported = subst (IsSupported s) (sym whole) (rests_there up good);
    avoids = λ f z. subst (Avoids s f) (sym whole) (avoids_it f z);
  }

pub there_is : (o : Option Record) (file : List ℕ) → list_any (λ (c : List ℕ × List ℕ). same c.1 file) (children_of (node_of o)) ≡ true
    → is_some o ≡ true
there_is None file e = absurd (cc e)
there_is (Some r) file e = refl

-- ## A path is asked for

module _ (c : Cluster) (k : ℕ) (s : Server) (stand : PathsStand c) (h : PathsHold c) (at : slice_get c.servers k ≡ Some s) where
  denied_true : (from : ℕ) (file : List ℕ) (w : Why) → KeepsTrue c (denies from file w s)
  denied_true from file w = stays_true c k s (denies from file w s) h at refl refl

  above_true : (from : ℕ) (file top dir : List ℕ) → KeepsTrue c (asks_above from file top dir s)
  above_true from file top dir = stays_true c k s (asks_above from file top dir s) h at refl refl

  given_true : (from : ℕ) (file dir : List ℕ) (above : List (List ℕ)) → made c.journal file ≡ Some Dir → dir_here (held_by c) file ≡ Some dir
      → has_record s dir ≡ true → is_kept s file ≡ false
      → path_here s dir ≡ answer.Path above → KeepsTrue c (gives_path from file above s)
  given_true from file dir above is_dir place here free e =
      let new : PathLease = lease_to from file above s in
      let good : IsGood (held_by c) s dir (reverse above) = taken_good c k s stand h at dir above (stand.dirs file dir place) here e in
      let right : IsTruePath (held_by c) c.journal s new = new_true (held_by c) c.journal s new dir (reverse above) (turned_last above file) good place here free stand.dirs is_dir in
      λ l i. true_alike (held_by c) (held_by c) c.journal c.journal s (with_path new s) l (λ f m. refl) (λ f d. d)
      (keeps_same s (with_path new s) l refl refl refl)
      (elim (In-put (λ (y : PathLease). path_before new.no y.no) l new s.paths.issued i) as (λ _. IsTruePath (held_by c) c.journal s l) [
        | inl q ↦ subst (IsTruePath (held_by c) c.journal s) (sym q) right
        | inr j ↦ h.truth s (In-got c.servers k s at) l j
      ])

  answered_true : (from : ℕ) (file dir : List ℕ) → made c.journal file ≡ Some Dir → dir_here (held_by c) file ≡ Some dir → has_record s dir ≡ true
      → is_kept s file ≡ false
      → (a : PathAnswer) → path_here s dir ≡ a → KeepsTrue c (answers_path from file a s)
  answered_true from file dir is_dir place here free (answer.Wanted top d) e = above_true from file top d
  answered_true from file dir is_dir place here free (answer.Frozen f txn) e = denied_true from file (why.Frozen f txn)
  answered_true from file dir is_dir place here free (answer.Path above) e = given_true from file dir above is_dir place here free e

  unless_true : (from : ℕ) (file dir : List ℕ) → made c.journal file ≡ Some Dir → has_child s.records dir file ≡ true → (o : Option TxnNo)
      → frozen_for file s.paths.frozen ≡ o → KeepsTrue c (unless_kept from file dir o s)
  unless_true from file dir is_dir child (Some txn) e = denied_true from file (why.Frozen file txn)
  unless_true from file dir is_dir child None e =
      let free : is_kept s file ≡ false = ap is_some e in
      answered_true from file dir is_dir (stand.listed k s file dir at is_dir child free) (there_is (get s.records dir) file child) free (path_here s dir) refl

  -- the topmost file here, of which the path is asked for farther up, was made as a directory
  pub asks_of_directories : (file dir : List ℕ) → made c.journal file ≡ Some Dir → (top above : List ℕ) → is_mine s dir ≡ true
      → has_child s.records dir file ≡ true → frozen_for file s.paths.frozen ≡ None
      → path_here s dir ≡ answer.Wanted top above → made c.journal top ≡ Some Dir
  asks_of_directories file dir is_dir top above mine child e wanted =
      wanted_made c k s stand h at dir top above (stand.dirs file dir (stand.listed k s file dir at is_dir child (ap is_some e))) (there_is (get s.records dir) file child) wanted

  pub asked_true : (from : ℕ) (file dir : List ℕ) → made c.journal file ≡ Some Dir → KeepsTrue c (path_ask_step from file dir s)
  asked_true from file dir is_dir = by (is_mine s dir) (has_child s.records dir file) refl
    where
      by : (a b : Bool) → has_child s.records dir file ≡ b
          → KeepsTrue c (cond a
          (cond b (unless_kept from file dir (frozen_for file s.paths.frozen) s) (denies from file why.NoChild s))
          (denies from file (moved_why (longest s.map dir)) s))
      by true true e = unless_true from file dir is_dir e (frozen_for file s.paths.frozen) refl
      by true false e = denied_true from file why.NoChild
      by false b e = denied_true from file (moved_why (longest s.map dir))

  -- ## One comes

  kept_true : (b : Bool) (from : ℕ) (number : PathNo) (file : List ℕ) (path : List (List ℕ))
      → KeepsTrue c (keeps_path b from number file path (without_asking file s))
  kept_true false from number file path = stays_true c k s (keeps_path false from number file path (without_asking file s)) h at refl refl
  kept_true true from number file path =
      let new : PathLease = record { no = number; peer = from; file = file; path = path } in
      let among : (x : Having) → In x s.paths.held → In x (with_held (Held new) s.paths.held) =
      λ x i. In-put_still (λ (y : Having). path_before number (lease_of y).no) x (Held new) s.paths.held i in
      λ l i. true_alike (held_by c) (held_by c) c.journal c.journal s (with_held_path new (without_asking file s)) l (λ f m. refl) (λ f d. d)
      (record {
        here = λ f m. refl;
        held = λ files of p. record { lease = p.lease; held = among p.lease p.held; path = p.path };
        kept = λ f z. inl z;
      })
      (h.truth s (In-got c.servers k s at) l i)

  pub came_true : (from : ℕ) (number : PathNo) (file : List ℕ) (path : List (List ℕ)) → KeepsTrue c (path_grant_step from number file path s)
  came_true from number file path = by (holds number s.paths.held)
    where
      by : (b : Bool) → KeepsTrue c (cond b (strange s) (keeps_path (is_same_dir (dir_here s.records file) (last_dir path)) from number file path (without_asking file s)))
      by true = stays_true c k s (strange s) h at refl refl
      by false = kept_true (is_same_dir (dir_here s.records file) (last_dir path)) from number file path

  -- ## One is denied

  failed_true : (file : List ℕ) (w : Why) → KeepsTrue c (fails_path file w s)
  failed_true file w = stays_true c k s (fails_path file w s) h at refl refl

  sought_true : (file : List ℕ) (w : Why) (to : ℕ) (o : Option (List ℕ)) → KeepsTrue c (moved_path file w to o s)
  sought_true file w to None = failed_true file w
  sought_true file w to (Some dir) = by (to == s.me)
    where
      seeks : Stepped
      seeks = sends (note.PathSeeks file to) (to_server to (peer.PathAsk file dir) ∷ []) s

      by : (b : Bool) → KeepsTrue c (cond b (fails_path file w s) seeks)
      by true = failed_true file w
      by false = stays_true c k s seeks h at refl refl

  pub refused_true : (file : List ℕ) (w : Why) → KeepsTrue c (path_no_step file w s)
  refused_true file (why.Moved prefix to) = sought_true file (why.Moved prefix to) to (dir_here s.records file)
  refused_true file w = failed_true file w
