-- A session has at most one transaction, wherever it stands.
use Rattle.std.proofs.Common.{◌≡◌, ◌==◌, ◌+◌, ◌≤◌, ℕ, Bool, not, List, [], ◌∷◌, ◌++◌, length, refl, sym, ap, ◌∙◌, subst, inl, inr, map, filter, arith, length-append}
use Rattle.std.specs.Prelude.{Some}
use Rattle.std.specs.List.{flat_map}
use Rattle.std.proofs.lemmas.List.{length-map}
use Rattle.std.proofs.lemmas.List.Concat.{flat_map_single}
use Rattle.std.proofs.lemmas.List.Elements.{filter-append}
use Rattle.fs_ident.specs.In.{In}
use Rattle.fs_ident.specs.declared.actor.Session.{Session}
use Rattle.fs_ident.specs.declared.actor.TxnNo.{TxnNo}
use Rattle.fs_ident.proofs.Same.{itself, one_session}
use Rattle.fs_ident.proofs.Standing.{In-behind, In-filter, In-front, In-map, In-mapped}
use Rattle.fs_parcel.proofs.Both.{passing}
use Rattle.fs_client.specs.Led.{lead_of}
use Rattle.fs_client.specs.declared.led.Led.{Led}
use Rattle.fs_msg.specs.declared.answer.Answer.{Answer}
use Rattle.fs_msg.specs.declared.answer.Answer.TheVariants as answer
use Rattle.fs_msg.specs.declared.client_msg.ClientMsg.{ClientMsg}
use Rattle.fs_msg.specs.declared.client_msg.ClientMsg.TheVariants as message
use Rattle.fs_server.specs.declared.state.Server.{Server}
use Rattle.fs_txn.specs.declared.leading.Ending.{Ending}
use Rattle.fs_txn.specs.declared.leading.Leading.{Leading}
use Rattle.fs_txn.proofs.Keys.{kept_in}
use Rattle.fs_serial.specs.Cluster.{Cluster}
use Rattle.fs_serial.specs.Exchange.{due, is_recall}
use Rattle.fs_serial.specs.Leading.{LedHolds}
use Rattle.fs_serial.specs.Owed.{ends_in, owed_at, owed_to, taken_at, taken_leads}
pub use Rattle.fs_serial.proofs.Transactions.Tables.{In_all, In_some}
use Rattle.fs_serial.proofs.Transactions.Tables.{all_stay}

-- ## Lists

pub only_one : {X : Type 0} (xs : List X) (a b : X) → length xs ≤ 1 → In a xs → In b xs → a ≡ b
only_one [] a b n i j = absurd i
only_one (x ∷ []) a b n (inl e) (inl f) = e ∙ sym f
only_one (x ∷ []) a b n (inl e) (inr j) = absurd j
only_one (x ∷ []) a b n (inr i) j = absurd i
only_one (x ∷ y ∷ ys) a b n i j = absurd (omega arith)

pub due_both : (a b : List Answer) → due (a ++ b) ≡ due a ++ due b
due_both a b = filter-append (λ x. not (is_recall x)) a b

-- ## All transactions of a session

abbrev leads : Session → Leading → Bool
leads x l = l.leader.session.0 == x.0

abbrev ended : Session → Ending → Bool
ended x y = y.session.0 == x.0

-- those of which votes are awaited, and those that are decided
abbrev pub leads_at : Session → Server → List TxnNo
leads_at x s = map (λ (l : Leading). l.leader.txn) (filter (λ (l : Leading). l.leader.session.0 == x.0) s.leading)

abbrev pub ends_at : Session → Server → List TxnNo
ends_at x s = map (λ (y : Ending). y.txn) (filter (λ (y : Ending). y.session.0 == x.0) s.ending)

abbrev pub txns_at : Session → Server → List TxnNo
txns_at x s = leads_at x s ++ ends_at x s

abbrev pub txns_of : Session → List Server → List TxnNo
txns_of x servers = flat_map (txns_at x) servers

pub leads_its : (x : Session) (servers : List Server) (s : Server) → In s servers → (l : Leading) → In l s.leading → l.leader.session ≡ x
    → In l.leader.txn (txns_of x servers)
leads_its x servers s i l j e =
    let among : In l (filter (leads x) s.leading) = kept_in (leads x) l s.leading j (ap (λ (y : Session). y.0 == x.0) e ∙ itself x.0) in
    In_all (txns_at x) l.leader.txn s servers i
    (In-front l.leader.txn (leads_at x s) (ends_at x s)
    (In-mapped (λ (z : Leading). z.leader.txn) l (filter (leads x) s.leading) among))

pub ends_its : (x : Session) (servers : List Server) (s : Server) → In s servers → (y : Ending) → In y s.ending → y.session ≡ x
    → In y.txn (txns_of x servers)
ends_its x servers s i y j e =
    let among : In y (filter (ended x) s.ending) = kept_in (ended x) y s.ending j (ap (λ (z : Session). z.0 == x.0) e ∙ itself x.0) in
    In_all (txns_at x) y.txn s servers i
    (In-behind y.txn (leads_at x s) (ends_at x s) (In-mapped (λ (z : Ending). z.txn) y (filter (ended x) s.ending) among))

pub all_owed_due : (x : Session) (servers : List Server) → due (owed_to x servers) ≡ owed_to x servers
all_owed_due x servers = all_stay (λ a. not (is_recall a)) (owed_to x servers) (λ a i.
    let q = In_some (owed_at x) a servers i in
    let r = In-map (λ (e : Ending). answer.Led e.end) a (filter (ended x) (q.0).ending) q.1.1 in
    ap (λ b. not (is_recall b)) r.1.1)

-- ## How many there are

counted : (x : Session) (servers : List Server) → length (txns_of x servers) ≡ length (flat_map (leads_at x) servers) + length
    (owed_to x servers)
counted x [] = omega arith
counted x (s ∷ ss) =
    let rest : length (txns_of x ss) ≡ length (flat_map (leads_at x) ss) + length (owed_to x ss) = counted x ss in
    let all : length ((leads_at x s ++ ends_at x s) ++ txns_of x ss) ≡ length (leads_at x s ++ ends_at x s) + length (txns_of x ss) =
    length-append (leads_at x s ++ ends_at x s) (txns_of x ss) in
    let own : length (leads_at x s ++ ends_at x s) ≡ length (leads_at x s) + length (ends_at x s) =
    length-append (leads_at x s) (ends_at x s) in
    let led : length (leads_at x s ++ flat_map (leads_at x) ss) ≡ length (leads_at x s) + length (flat_map (leads_at x) ss) =
    length-append (leads_at x s) (flat_map (leads_at x) ss) in
    let owed : length (owed_at x s ++ owed_to x ss) ≡ length (owed_at x s) + length (owed_to x ss) =
    length-append (owed_at x s) (owed_to x ss) in
    let same : length (ends_at x s) ≡ length (owed_at x s) =
    length-map (filter (ended x) s.ending) (λ (y : Ending). y.txn)
    ∙ sym (length-map (filter (ended x) s.ending) (λ (e : Ending). answer.Led e.end)) in
    omega (arith, rest, all, own, led, owed, same)

taken_all : (x : Session) (d : Led) (servers : List Server)
    → length (flat_map (leads_at x) servers) ≡ length (taken_leads x (Some d) servers)
taken_all x d [] = refl
taken_all x d (s ∷ ss) =
    let rest : length (flat_map (leads_at x) ss) ≡ length (taken_leads x (Some d) ss) = taken_all x d ss in
    let each : taken_at x (Some d) s ≡ map (λ (l : Leading). message.Lead (lead_of d)) (filter (leads x) s.leading) =
    flat_map_single (λ (l : Leading). message.Lead (lead_of d)) (filter (leads x) s.leading) in
    let same : length (leads_at x s) ≡ length (taken_at x (Some d) s) =
    length-map (filter (leads x) s.leading) (λ (l : Leading). l.leader.txn)
    ∙ sym (ap length each ∙ length-map (filter (leads x) s.leading) (λ (l : Leading). message.Lead (lead_of d))) in
    length-append (leads_at x s) (flat_map (leads_at x) ss)
    ∙ ap (λ n. n + length (flat_map (leads_at x) ss)) same
    ∙ ap (λ n. length (taken_at x (Some d) s) + n) rest
    ∙ sym (length-append (taken_at x (Some d) s) (taken_leads x (Some d) ss))

-- ## At most one

module _ (c : Cluster) (h : LedHolds c) (x : Session) (one : length (ends_in c x).up + length (due (ends_in c x).down) ≤ 1) where
  -- a session of which an operation is led waits for it
  waits : (t : TxnNo) → In t (flat_map (leads_at x) c.servers) → (d : Led) × ((c.lines x).client.led ≡ Some d)
  waits t i =
      let q = In_some (leads_at x) t c.servers i in
      let r = In-map (λ (l : Leading). l.leader.txn) t (filter (leads x) (q.0).leading) q.1.1 in
      let l = h.leading q.0 q.1.0 r.0 (In-filter (leads x) r.0 (q.0).leading r.1.0) in
      let its : (r.0).leader.session ≡ x = one_session (r.0).leader.session x (passing (leads x) (q.0).leading r.0 r.1.0) in
      (l.led, subst (λ y. (c.lines y).client.led ≡ Some l.led) its l.client.led)

  not_taken_more : (xs : List TxnNo) → flat_map (leads_at x) c.servers ≡ xs
      → length (flat_map (leads_at x) c.servers) ≤ length (taken_leads x (c.lines x).client.led c.servers)
  not_taken_more [] e = subst (λ ys. length ys ≤ length (taken_leads x (c.lines x).client.led c.servers)) (sym e) (omega arith)
  not_taken_more (t ∷ ts) e =
      let w = waits t (subst (In t) (sym e) (inl refl)) in
      let same : length (flat_map (leads_at x) c.servers) ≡ length (taken_leads x (c.lines x).client.led c.servers) =
      taken_all x w.0 c.servers ∙ ap (λ d. length (taken_leads x d c.servers)) (sym w.1) in
      omega (arith, same)

  -- counted with what it asks for itself
  pub with_asked : length (txns_of x c.servers) + length (map (λ (m : ℕ × ClientMsg). m.1) (c.lines x).up) ≤ 1
  with_asked =
      let asked : List ClientMsg = map (λ (m : ℕ × ClientMsg). m.1) (c.lines x).up in
      let told : List Answer = map (λ (m : ℕ × Answer). m.1) (c.lines x).down in
      let all : length (txns_of x c.servers) ≡ length (flat_map (leads_at x) c.servers) + length (owed_to x c.servers) =
      counted x c.servers in
      let led : length (flat_map (leads_at x) c.servers) ≤ length (taken_leads x (c.lines x).client.led c.servers) =
      not_taken_more (flat_map (leads_at x) c.servers) refl in
      let up : length (ends_in c x).up ≡ length asked + length (taken_leads x (c.lines x).client.led c.servers) =
      length-append asked (taken_leads x (c.lines x).client.led c.servers) in
      let down : length (due (ends_in c x).down) ≡ length (owed_to x c.servers) + length (due told) =
      ap length (due_both (owed_to x c.servers) told ∙ ap (λ ys. ys ++ due told) (all_owed_due x c.servers))
      ∙ length-append (owed_to x c.servers) (due told) in
      omega (arith, all, led, up, down, one)

  few : length (txns_of x c.servers) ≤ 1
  few = omega (arith, with_asked)

  pub one_txn : (a b : TxnNo) → In a (txns_of x c.servers) → In b (txns_of x c.servers) → a ≡ b
  one_txn a b i j = only_one (txns_of x c.servers) a b few i j
