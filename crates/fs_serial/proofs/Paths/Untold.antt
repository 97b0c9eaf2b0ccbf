-- Messages that say nothing of paths, and steps of a server that send no others and leave its records and path leases as they are.
use Rattle.std.proofs.Common.{◌≡◌, ◌∙◌, Bool, true, false, List, [], ◌∷◌, ◌++◌, ℕ, filter, refl, sym, ap, subst, cond, inl, inr}
use Rattle.std.specs.Prelude.{◌⊎◌, Some, None, slice_get}
use Rattle.std.specs.List.{cons_option, find}
use Rattle.fs_ident.specs.In.{In}
use Rattle.fs_ident.specs.declared.actor.PathNo.{PathNo}
use Rattle.fs_ident.specs.declared.actor.Peer.{Peer}
use Rattle.fs_ident.specs.declared.actor.Peer.TheVariants.{Client as OfSession, Server as OfServer}
use Rattle.fs_ident.specs.declared.actor.Session.{Session}
use Rattle.fs_ident.proofs.Standing.{In-append}
use Rattle.fs_msg.specs.declared.answer.Answer.{Answer}
use Rattle.fs_msg.specs.declared.msg.Msg.{Msg}
use Rattle.fs_msg.specs.declared.msg.Msg.TheVariants as msg
use Rattle.fs_msg.specs.declared.peer_msg.PeerMsg.{PeerMsg}
use Rattle.fs_msg.specs.declared.peer_msg.PeerMsg.TheVariants.{PathAsk, PathGrant, PathNo as Denied, PathRelease}
use Rattle.fs_path.specs.Tables.{PathTables, through}
use Rattle.fs_server.specs.PathSteps.{dir_here}
use Rattle.fs_server.specs.Server.{Stepped, to_session}
use Rattle.fs_server.specs.declared.event.ServerEvent.{ServerEvent}
use Rattle.fs_server.specs.declared.event.ServerEvent.TheVariants.{FromPeer}
use Rattle.fs_server.specs.declared.state.Server.{Server}
use Rattle.fs_record.specs.Records.{RecordMap}
use Rattle.fs_serial.specs.Cluster.{Cluster, InFlight, IsThere, after_step, in_flight_from, is_between, parcel_in, parcels_of}
use Rattle.fs_serial.specs.Cluster.{without_arrived, without_first}
use Rattle.fs_serial.specs.Joined.{effects_by, effects_on_way}
use Rattle.fs_serial.specs.Paths.{LeavesPaths, SaysPath, has_path, has_record, is_kept}
use Rattle.fs_serial.proofs.Paths.SameSpace.{TakesNothing, given_without, picked_without, space_still}
use Rattle.fs_serial.proofs.Paths.Tokens.{nothing_made}

-- ## One message

-- it says nothing of who has which path
abbrev pub SaysNoPath : PeerMsg → Type 0
SaysNoPath (PathAsk file dir) = ⊥
SaysNoPath (PathGrant number file path) = ⊥
SaysNoPath (Denied file w) = ⊥
SaysNoPath (PathRelease number) = ⊥
SaysNoPath m = Unit {0}

-- nor does it bring a parcel or effects
pub record IsQuietWord (m : PeerMsg) : Type 0 where
  pub path : SaysNoPath m
  pub parcel : parcel_in m ≡ None
  pub effects : effects_by m ≡ []

no_path_in : (m : PeerMsg) → SaysNoPath m → (number : PathNo) → has_path number m ≡ false
no_path_in (PathAsk file dir) n number = absurd n
no_path_in (PathGrant i file path) n number = absurd n
no_path_in (Denied file w) n number = absurd n
no_path_in (PathRelease i) n number = absurd n
no_path_in m n number = refl

says_nothing : (c : Cluster) (from to : ℕ) (m : PeerMsg) → SaysNoPath m → SaysPath c from to m
says_nothing c from to (PathAsk file dir) n = absurd n
says_nothing c from to (PathGrant i file path) n = absurd n
says_nothing c from to (Denied file w) n = absurd n
says_nothing c from to (PathRelease i) n = absurd n
says_nothing c from to m n = tt

-- ## What is sent

-- what goes to other servers says nothing of paths
abbrev pub AreSilent : List (Peer × Msg) → Type 0
AreSilent ms = (to : ℕ) (m : PeerMsg) → In (OfServer to, msg.Peer m) ms → SaysNoPath m

abbrev pub AreQuietWords : List (Peer × Msg) → Type 0
AreQuietWords ms = (to : ℕ) (m : PeerMsg) → In (OfServer to, msg.Peer m) ms → IsQuietWord m

pub quiet_silent : (ms : List (Peer × Msg)) → AreQuietWords ms → AreSilent ms
quiet_silent ms q to m i = (q to m i).path

pub quiet_both : (a b : List (Peer × Msg)) → AreQuietWords a → AreQuietWords b → AreQuietWords (a ++ b)
quiet_both a b p q to m i = elim (In-append (OfServer to, msg.Peer m) a b i) as (λ _. IsQuietWord m) [ inl j ↦ p to m j | inr j ↦ q to m j ]

pub silent_both : (a b : List (Peer × Msg)) → AreSilent a → AreSilent b → AreSilent (a ++ b)
silent_both a b p q to m i = elim (In-append (OfServer to, msg.Peer m) a b i) as (λ _. SaysNoPath m) [ inl j ↦ p to m j | inr j ↦ q to m j ]

pub quiet_one : (at : ℕ) (m : PeerMsg) → IsQuietWord m → AreQuietWords ((OfServer at, msg.Peer m) ∷ [])
quiet_one at m q to n (inl e) =
    let word : msg.Peer n ≡ msg.Peer m = ap (λ (y : Peer × Msg). y.1) e in
    let same : n ≡ m = cc word in
    subst IsQuietWord (sym same) q
quiet_one at m q to n (inr z) = absurd z

-- answers to sessions go to no server
pub answers_quiet : (by : Session) (a : Answer) → AreQuietWords (to_session by a ∷ [])
answers_quiet by a to m (inl e) = let wrong : OfServer to ≡ OfSession by = ap (λ (y : Peer × Msg). y.0) e in absurd (cc wrong)
answers_quiet by a to m (inr z) = absurd z

pub none_quiet : AreQuietWords []
none_quiet to m i = absurd i

module _ (k : ℕ) where
  none_handed : (ms : List (Peer × Msg)) → AreQuietWords ms → parcels_of (in_flight_from k ms) ≡ []
  none_handed [] q = refl
  none_handed ((OfServer to, msg.Peer m) ∷ rest) q =
      ap (λ o. cons_option o (parcels_of (in_flight_from k rest))) (q to m (inl refl)).parcel ∙ none_handed rest (λ t x i. q t x (inr i))
  none_handed ((OfServer to, msg.Answer a) ∷ rest) q = none_handed rest (λ t x i. q t x (inr i))
  none_handed ((OfServer to, msg.Client a) ∷ rest) q = none_handed rest (λ t x i. q t x (inr i))
  none_handed ((OfSession to, m) ∷ rest) q = none_handed rest (λ t x i. q t x (inr i))

  none_applied : (ms : List (Peer × Msg)) → AreQuietWords ms → effects_on_way (in_flight_from k ms) ≡ []
  none_applied [] q = refl
  none_applied ((OfServer to, msg.Peer m) ∷ rest) q =
      ap (λ es. es ++ effects_on_way (in_flight_from k rest)) (q to m (inl refl)).effects ∙ none_applied rest (λ t x i. q t x (inr i))
  none_applied ((OfServer to, msg.Answer a) ∷ rest) q = none_applied rest (λ t x i. q t x (inr i))
  none_applied ((OfServer to, msg.Client a) ∷ rest) q = none_applied rest (λ t x i. q t x (inr i))
  none_applied ((OfSession to, m) ∷ rest) q = none_applied rest (λ t x i. q t x (inr i))

  silent_each : (ms : List (Peer × Msg)) → AreSilent ms → (f : InFlight) → In f (in_flight_from k ms) → SaysNoPath f.message
  silent_each [] q f i = absurd i
  silent_each ((OfServer to, msg.Peer m) ∷ rest) q f (inl e) = subst (λ (g : InFlight). SaysNoPath g.message) (sym e) (q to m (inl refl))
  silent_each ((OfServer to, msg.Peer m) ∷ rest) q f (inr i) = silent_each rest (λ t x j. q t x (inr j)) f i
  silent_each ((OfServer to, msg.Answer a) ∷ rest) q f i = silent_each rest (λ t x j. q t x (inr j)) f i
  silent_each ((OfServer to, msg.Client a) ∷ rest) q f i = silent_each rest (λ t x j. q t x (inr j)) f i
  silent_each ((OfSession to, m) ∷ rest) q f i = silent_each rest (λ t x j. q t x (inr j)) f i

-- so what is sent is true of paths, and brings none
pub silent_sent : (later : Cluster) (k : ℕ) (ms : List (Peer × Msg)) → AreSilent ms → (f : InFlight) → In f (in_flight_from k ms)
    → SaysPath later f.from f.to f.message × ((number : PathNo) → has_path number f.message ≡ false)
silent_sent later k ms q f i =
    let none : SaysNoPath f.message = silent_each k ms q f i in
    (says_nothing later f.from f.to f.message none, λ number. no_path_in f.message none number)

-- ## What is taken

passing_without : {X : Type 0} (pass is : X → Bool) (xs : List X) (x : X) → find is xs ≡ Some x → pass x ≡ false
    → filter pass (without_first is xs) ≡ filter pass xs
passing_without pass is [] x e n = refl
passing_without {X = X} pass is (y ∷ ys) x e n =
    elim (is y) as (λ b. cond b (Some y) (find is ys) ≡ Some x
    → filter pass (cond b ys (y ∷ without_first is ys)) ≡ cond (pass y) (y ∷ filter pass ys) (filter pass ys)) [
      | true ↦ λ q. let same : y ≡ x = cc in ap (λ b. cond b (y ∷ filter pass ys) (filter pass ys)) (sym (ap pass same ∙ n))
      | false ↦ λ q. ap (λ zs. cond (pass y) (y ∷ zs) zs) (passing_without pass is ys x q n)
    ] e

-- what the event takes brings no path
abbrev pub TakesNoPath : ℕ → ServerEvent → Cluster → Type 0
TakesNoPath k e c = (number : PathNo) → filter (λ (f : InFlight). has_path number f.message) (without_arrived k e c.in_flight)
    ≡ filter (λ (f : InFlight). has_path number f.message) c.in_flight

module _ (k from : ℕ) (m : PeerMsg) (c : Cluster) (there : IsThere k (FromPeer from m) c) where
  abbrev it : InFlight
  it = record { from = from; to = k; message = m }

  pub silent_taken : SaysNoPath m → TakesNoPath k (FromPeer from m) c
  silent_taken q number =
      passing_without (λ (f : InFlight). has_path number f.message) (is_between from k) c.in_flight it there (no_path_in m q number)

  pub quiet_taken : IsQuietWord m → TakesNothing k (FromPeer from m) c
  quiet_taken q = record {
    parcels = picked_without (λ (f : InFlight). parcel_in f.message) (is_between from k) c.in_flight it there q.parcel;
    effects = given_without (λ (f : InFlight). effects_by f.message) (is_between from k) c.in_flight it there q.effects;
  }

-- ## A server that leaves its paths

-- its records and leases are as they were, and it keeps no more files but such as none of its paths goes over
pub record KeepsOffPaths (s t : Server) : Type 0 where
  pub me : t.me ≡ s.me
  pub records : t.records ≡ s.records
  pub issued : t.paths.issued ≡ s.paths.issued
  pub held : t.paths.held ≡ s.paths.held
  pub given : t.paths_given ≡ s.paths_given
  pub kept : (f : List ℕ) → is_kept t f ≡ true → (is_kept s f ≡ true) ⊎ (through f s.paths.issued ≡ None)

pub keeps_itself : (s : Server) → KeepsOffPaths s s
keeps_itself s = record { me = refl; records = refl; issued = refl; held = refl; given = refl; kept = λ f is. inl is }

-- its paths and records are as they were
pub keeps_same : (s t : Server) → t.me ≡ s.me → t.records ≡ s.records → t.paths ≡ s.paths → t.paths_given ≡ s.paths_given
    → KeepsOffPaths s t
keeps_same s t me records paths given = record {
  me = me;
  records = records;
  issued = ap (λ (x : PathTables). x.issued) paths;
  held = ap (λ (x : PathTables). x.held) paths;
  given = given;
  kept = λ f is. inl (ap (λ x. is_kept (record s { paths = x }) f) (sym paths) ∙ is);
}

pub keeps_then : (r s t : Server) → KeepsOffPaths r s → KeepsOffPaths s t → KeepsOffPaths r t
keeps_then r s t a b = record {
  me = b.me ∙ a.me;
  records = b.records ∙ a.records;
  issued = b.issued ∙ a.issued;
  held = b.held ∙ a.held;
  given = b.given ∙ a.given;
  kept = λ f is. elim (b.kept f is) as (λ _. (is_kept r f ≡ true) ⊎ (through f r.paths.issued ≡ None)) [
    | inl was ↦ a.kept f was
    | inr none ↦ inr (ap (through f) (sym a.issued) ∙ none)
  ];
}

-- a step in which nothing is admitted, and nothing comes or goes but words
pub record IsWordStep (k : ℕ) (e : ServerEvent) (s : Server) (x : Stepped) (c : Cluster) : Type 0 where
  pub server : KeepsOffPaths s x.server
  pub admitted : x.out.admitted ≡ []
  pub sent : AreQuietWords x.out.send
  pub takes : TakesNothing k e c
  pub taken : TakesNoPath k e c

pub word_step_leaves : (c : Cluster) (k : ℕ) (e : ServerEvent) (s : Server) (x : Stepped) → slice_get c.servers k ≡ Some s
    → IsWordStep k e s x c → LeavesPaths k e s x c (after_step k e x c)
word_step_leaves c k e s x at q = record {
  me = q.server.me;
  issued = q.server.issued;
  held = q.server.held;
  kept = q.server.kept;
  given = q.server.given;
  sent = silent_sent (after_step k e x c) k x.out.send (quiet_silent x.out.send q.sent);
  taken = q.taken;
  journal = nothing_made c (after_step k e x c) (ap (λ is. c.journal ++ is) q.admitted);
  up = λ f on. ap (λ m. dir_here m f)
      (space_still c k e s x at q.takes q.server.records (none_handed k x.out.send q.sent) (none_applied k x.out.send q.sent));
  here = λ l f i m. ap (λ (r : RecordMap). has_record (record s { records = r }) f) q.server.records;
}
