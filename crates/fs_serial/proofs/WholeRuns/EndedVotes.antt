-- A server votes that a lease had ended: it had.
use Rattle.std.proofs.Common.{◌≡◌, ℕ, ◌+◌, ◌<◌, ◌≤◌, ◌⊎◌, not, true, false, List, [], ◌∷◌, cond, refl, sym, ap, ap₂, ◌∙◌, subst, inl}
use Rattle.std.proofs.Common.{inr, arith}
use Rattle.std.proofs.lemmas.Bool.{ltb-true, ltb-false}
use Rattle.std.specs.Prelude.{◌≢◌, Bool, Option, Some, None, nat_lt, slice_get}
use Rattle.fs_ident.specs.Ident.{same}
use Rattle.fs_ident.specs.In.{In}
use Rattle.fs_ident.specs.declared.actor.LeaseNo.{LeaseNo}
use Rattle.fs_ident.specs.declared.actor.PathNo.{PathNo}
use Rattle.fs_ident.specs.declared.actor.Session.{Session}
use Rattle.fs_ident.specs.declared.actor.TxnNo.{TxnNo}
use Rattle.fs_ident.proofs.Booleans.{denied}
use Rattle.fs_ident.proofs.Passing.{found}
use Rattle.fs_ident.proofs.Same.{same_is}
use Rattle.fs_ident.proofs.Standing.{In-append, In-filter, In-got, In-map}
use Rattle.fs_field.specs.Field.{file_of}
use Rattle.fs_field.specs.Table.{is_lease}
use Rattle.fs_field.specs.declared.row.Row.{Row}
use Rattle.fs_field.specs.declared.used.Part.{Part}
use Rattle.fs_field.specs.declared.used.Use.{Use}
use Rattle.fs_field.specs.declared.vote.Vote.{Vote}
use Rattle.fs_field.specs.declared.vote.Vote.TheVariants as vote
use Rattle.fs_field.proofs.Leases.{SameLease}
use Rattle.fs_map.specs.Map.{longest}
use Rattle.fs_moderows.proofs.Witnesses.{In_any}
use Rattle.fs_parcel.proofs.Both.{passing}
use Rattle.fs_client.specs.Led.{lead_of}
use Rattle.fs_client.specs.declared.led.Led.{Led}
use Rattle.fs_msg.specs.declared.client_msg.ClientMsg.TheVariants.{Lead}
use Rattle.fs_path.specs.Tables.{through}
use Rattle.fs_server.specs.Begins.{Round, parts_in, rounds}
use Rattle.fs_server.specs.Counts.{after_own_vote}
use Rattle.fs_server.specs.Follows.{path_in_the_way, vote_here}
use Rattle.fs_server.specs.Server.{is_mine}
use Rattle.fs_server.specs.Ships.{first_gone, has_row}
use Rattle.fs_server.specs.declared.state.Server.{Server}
use Rattle.fs_server.proofs.Following.{gone_same}
use Rattle.fs_txn.specs.Parts.{led_files, part_at}
use Rattle.fs_txn.specs.Preparing.{moved_to, vote_by}
use Rattle.fs_txn.specs.declared.mode.Mode2.{Mode2}
use Rattle.fs_serial.specs.Cluster.{Cluster}
use Rattle.fs_serial.specs.EndedLeases.{WasEnded}
use Rattle.fs_serial.specs.Led.{LedStands}
use Rattle.fs_serial.specs.Locks.{IsRelock}
use Rattle.fs_serial.specs.Owed.{ends_in}
use Rattle.fs_serial.specs.Parts.{SessionFits}
use Rattle.fs_serial.specs.Refusals.{rows_in}
use Rattle.fs_serial.specs.Seen.{ClusterHolds, given_at, world_of}
use Rattle.fs_serial.specs.Sight.{IsGiven}
use Rattle.fs_serial.specs.World.{settled_at, sight_in}
use Rattle.fs_serial.proofs.Grants.OneLease.{lease_is}
use Rattle.fs_serial.proofs.Moves.KeptPaths.{voted_alike}
use Rattle.fs_serial.proofs.Places.AllHere.{row_at_home}
use Rattle.fs_serial.proofs.Transactions.PlacesAfter.{AreRelocked, voted_so}
use Rattle.fs_serial.proofs.Transactions.RoundsLocks.{round_by}
use Rattle.fs_serial.proofs.Transactions.Undecided.{stands}
use Rattle.fs_serial.proofs.WholeRuns.EndedStay.{count_own}

-- ## Rows that are locked

-- each stays the same lease
relock_same : (f : Row → Row) → IsRelock f → (r : Row) → SameLease r (f r)
relock_same f is r = record {
  number = ap (λ (x : Row). x.no) (is r).1;
  session = ap (λ (x : Row). x.session) (is r).1;
  field = ap (λ (x : Row). x.field) (is r).1;
  kind = ap (λ (x : Row). x.kind) (is r).1;
}

gone_relocked : (rows new : List Row) → AreRelocked rows new → (by : Session) (uses : List Use)
    → first_gone new by uses ≡ first_gone rows by uses
gone_relocked rows new q by uses =
    ap (λ rs. first_gone rs by uses) q.is ∙ gone_same q.change (relock_same q.change q.relock) rows by uses

-- what is kept is no path
way_voted : (txn : TxnNo) (p : Part) (v : Vote) (s : Server) (o : Option (List ℕ))
    → path_in_the_way (after_own_vote txn p v s) o ≡ path_in_the_way s o
way_voted txn p v s None = refl
way_voted txn p v s (Some file) = ap (through file) (voted_alike v txn p.freeze s.paths).issued

-- a vote says the same while rows are locked and files are kept
vote_relocked : (txn : TxnNo) (p : Part) (v : Vote) (s : Server) (by : Session) (q : Part)
    → vote_here (after_own_vote txn p v s) by q ≡ vote_here s by q
vote_relocked txn p v s by q =
    ap₂ (λ o w. cond (is_mine s q.file) (vote_by o w s.last) (moved_to (longest s.map q.file)))
    (gone_relocked s.rows (after_own_vote txn p v s).rows (voted_so v txn p.uses s.rows) by q.uses)
    (way_voted txn p v s q.freeze)

-- ## The lease that a vote names

-- the first of the part's leases without its row is this one
pub record IsFirstGone (s : Server) (by : Session) (p : Part) (number : LeaseNo) (end now : ℕ) : Type 0 where
  pub mine : is_mine s p.file ≡ true
  pub used : Use
  pub first : first_gone s.rows by p.uses ≡ Some used
  pub no : used.no ≡ number
  pub until : used.until ≡ end
  pub reading : s.last ≡ now

voted_gone : (s : Server) (by : Session) (p : Part) (number : LeaseNo) (end now : ℕ) → vote_here s by p ≡ vote.Ended number end now
    → IsFirstGone s by p number end now
voted_gone s by p number end now = by_file (is_mine s p.file) refl
  where
    by_use : (o : Option Use) (w : Option PathNo) → first_gone s.rows by p.uses ≡ o → is_mine s p.file ≡ true
        → vote_by o w s.last ≡ vote.Ended number end now → IsFirstGone s by p number end now
    by_use (Some u) w e mine h = record { mine = mine; used = u; first = e; no = cc; until = cc; reading = cc }
    by_use None None e mine h = absurd (cc h)
    by_use None (Some lease) e mine h = absurd (cc h)

    by_file : (b : Bool) → is_mine s p.file ≡ b
        → cond b (vote_by (first_gone s.rows by p.uses) (path_in_the_way s p.freeze) s.last) (moved_to (longest s.map p.file))
        ≡ vote.Ended number end now
        → IsFirstGone s by p number end now
    by_file true mine h = by_use (first_gone s.rows by p.uses) (path_in_the_way s p.freeze) refl mine h
    by_file false mine h = absurd (cc h)

-- a session whose operation is asked for, or is led and not decided yet
module _ (skew greatest k : ℕ) (c : Cluster) (s : Server) (at : slice_get c.servers k ≡ Some s) (h : ClusterHolds skew greatest c)
    (by : Session) (d : Led) (up : (ends_in c by).up ≡ Lead (lead_of d) ∷ []) (led : (c.lines by).client.led ≡ Some d)
    (within : greatest ≤ s.last + skew) where
  here : In s c.servers
  here = In-got c.servers k s at

  its : LedStands skew greatest (sight_in (world_of s c)) by (settled_at by (ends_in c by)) d
  its = stands skew greatest c s here h by (lead_of d) up d led

  fits : SessionFits s.skew greatest (sight_in (world_of s c)) by (settled_at by (ends_in c by))
  fits = (h.parts s here).0.all.fitting by

  given_there : (number : LeaseNo) → IsGiven (sight_in (world_of s c)).given number
      → number.count ≤ given_at (slice_get c.servers number.server)
  given_there number few = subst (λ n. number.count ≤ n) (count_own c.servers k s at (h.places.numbered k s at) number.server) few

  module _ (mode : Mode2) (p : Part) (i : In p (parts_in mode (lead_of d))) (number : LeaseNo) (end now : ℕ)
      (gone : IsFirstGone s by p number end now) where
    abbrev u : Use
    u = gone.used

    rowless : In u p.uses × (not (has_row s.rows by u) ≡ true)
    rowless = found (λ (x : Use). not (has_row s.rows by x)) p.uses u gone.first

    -- it is one that the operation used, on the part's file
    of_part : In u d.entry.uses × (file_of u.field ≡ p.file)
    of_part =
        let f = In-map (part_at mode d.entry.op d.file d.entry.uses) p (led_files d.entry.op d.file) i in
        let among : In u (part_at mode d.entry.op d.file d.entry.uses f.0).uses = subst (λ (x : Part). In u x.uses) f.1.1 rowless.0 in
        let on : (x : Use) → Bool = λ x. same (file_of x.field) f.0 in (
          In-filter on u d.entry.uses among,
          same_is (file_of u.field) f.0 (passing on d.entry.uses u among) ∙ ap (λ (x : Part). x.file) (sym f.1.1),
        )

    none : (r : Row) → In r (rows_in c) → r.no ≢ u.no
    none r j e =
        let l = its.held d.entry (inl refl) u of_part.0 in
        let m = fits.matching l.lease l.held r j (e ∙ sym l.number) in
        let file : file_of r.field ≡ p.file = ap file_of (m.field ∙ l.field) ∙ of_part.1 in
        let there : In r s.rows = row_at_home k c s at h.places r j (ap (is_mine s) file ∙ gone.mine) in
        denied (has_row s.rows by u) rowless.1
        (In_any (is_lease u.no by u.field u.kind) s.rows r there (lease_is r u by e m.session (m.field ∙ l.field) (m.kind ∙ l.kind)))

    over : u.until ≤ s.last
    over = by_end (nat_lt s.last u.until) refl
      where
        by_end : (b : Bool) → nat_lt s.last u.until ≡ b → u.until ≤ s.last
        by_end true t =
            let late : s.last < u.until = ltb-true s.last u.until t in
            let b = its.backed d.entry (inl refl) u of_part.0 (omega (arith, late, within)) in
            absurd (none b.row b.stands b.number)
        by_end false t = ltb-false s.last u.until t

    pub was_ended : WasEnded c by number end now
    was_ended = record {
      led = d;
      waits = led;
      used = u;
      no = gone.no;
      until = gone.until;
      had = record { used = of_part.0; gone = none; ended = subst (λ n. u.until ≤ n) gone.reading over };
      given =
          let l = its.held d.entry (inl refl) u of_part.0 in
          given_there number (subst (λ (n : LeaseNo). IsGiven (sight_in (world_of s c)).given n) (l.number ∙ gone.no)
          (fits.given l.lease l.held));
    }

  -- its vote on a part of the operation is right
  pub vote_fair : (mode : Mode2) (p : Part) → In p (parts_in mode (lead_of d)) → (number : LeaseNo) (end now : ℕ)
      → vote_here s by p ≡ vote.Ended number end now → WasEnded c by number end now
  vote_fair mode p i number end now v = was_ended mode p i number end now (voted_gone s by p number end now v)

-- ## When it begins

-- the vote was there, or is that of one of the parts
abbrev pub IsVoteOf : Server → Session → List Part → List (Option Vote) → Vote → Type 0
IsVoteOf s by ps before v = In (Some v) before ⊎ ((p : Part) × (In p ps × (vote_here s by p ≡ v)))

abbrev VotesAs : Server → Session → Server → Type 0
VotesAs s by t = (p : Part) → vote_here t by p ≡ vote_here s by p

more_votes : (s : Server) (by : Session) (p : Part) (ps : List Part) (before then : List (Option Vote)) (v : Vote)
    → (In (Some v) then → In (Some v) before ⊎ (vote_here s by p ≡ v)) → IsVoteOf s by ps then v → IsVoteOf s by (p ∷ ps) before v
more_votes s by p ps before then v one (inl i) = elim (one i) as (λ _. IsVoteOf s by (p ∷ ps) before v) [
  | inl j ↦ inl j
  | inr e ↦ inr (p, (inl refl, e))
]
more_votes s by p ps before then v one (inr q) = inr (q.0, (inr q.1.0, q.1.1))

pub rounds_said : (s : Server) (txn : TxnNo) (number : ℕ) (by : Session) (ps : List Part) (r : Round) → VotesAs s by r.server → (v : Vote)
    → In (Some v) (rounds txn number by ps r).votes → IsVoteOf s by ps r.votes v
rounds_said s txn number by [] r like v i = inl i
rounds_said s txn number by (p ∷ ps) r like v i =
    let b : Bool = is_mine r.server p.file in
    more_votes s by p ps r.votes (round_by txn number by p r b).votes v (its b)
    (rounds_said s txn (number + 1) by ps (round_by txn number by p r b) (likewise b) v i)
  where
    likewise : (b : Bool) → VotesAs s by (round_by txn number by p r b).server
    likewise true q = vote_relocked txn p (vote_here r.server by p) r.server by q ∙ like q
    likewise false q = like q

    its : (b : Bool) → In (Some v) (round_by txn number by p r b).votes → In (Some v) r.votes ⊎ (vote_here s by p ≡ v)
    its true i = elim (In-append (Some v) r.votes (Some (vote_here r.server by p) ∷ []) i) as
        (λ _. In (Some v) r.votes ⊎ (vote_here s by p ≡ v)) [
          | inl j ↦ inl j
          | inr (inl e) ↦ let same : v ≡ vote_here r.server by p = cc in inr (sym (like p) ∙ sym same)
          | inr (inr z) ↦ absurd z
        ]
    its false i = elim (In-append (Some v) r.votes (None ∷ []) i) as
        (λ _. In (Some v) r.votes ⊎ (vote_here s by p ≡ v)) [
          | inl j ↦ inl j
          | inr (inl e) ↦ absurd (cc e)
          | inr (inr z) ↦ absurd z
        ]
