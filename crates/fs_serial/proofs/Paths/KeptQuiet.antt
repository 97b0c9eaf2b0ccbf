-- All servers keep what they have to keep after a step in which records stay and nothing is told to be done.
use Rattle.std.proofs.Common.{◌≡◌, ◌∙◌, ◌⊎◌, ℕ, List, [], ◌++◌, append-nil, refl, ap, ap₂, subst, inl, inr}
use Rattle.std.specs.Prelude.{Some, slice_get}
use Rattle.std.specs.FinMap.{empty}
use Rattle.fs_ident.specs.In.{In}
use Rattle.fs_ident.specs.declared.actor.Session.{Session}
use Rattle.fs_ident.proofs.Standing.{In-append}
use Rattle.fs_field.specs.declared.effect.Effect.{Effect}
use Rattle.fs_client.specs.declared.led.Led.{Led}
use Rattle.fs_client.specs.declared.state.Client.{Client}
use Rattle.fs_server.specs.Server.{Stepped}
use Rattle.fs_server.specs.declared.event.ServerEvent.{ServerEvent}
use Rattle.fs_server.specs.declared.state.Server.{Server}
use Rattle.fs_txn.specs.Stages.{Key, Told, word_to}
use Rattle.fs_txn.specs.Stages.Word.{Decide}
use Rattle.fs_txn.specs.declared.leading.Leading.{Leading}
use Rattle.fs_txn.specs.declared.ready.Ready.{Ready}
use Rattle.fs_serial.specs.Cluster.{Cluster, InFlight, after_step, in_flight_from, parcels_of, without_arrived, without_question}
use Rattle.fs_serial.specs.Joined.{records_of_all, with_parcels}
use Rattle.fs_serial.specs.KeptFiles.{FilesKept, FreezesFor, KeepsFiles}
use Rattle.fs_serial.specs.Leading.{LedHolds}
use Rattle.fs_serial.specs.Runs.{records_in}
use Rattle.fs_serial.specs.Words.{key_of, telling_of, told_in}
use Rattle.fs_serial.proofs.Moves.Parcels.{parcels-append}
use Rattle.fs_serial.proofs.Paths.KeptAfter.{IsTold, WaitsFor, kept_after, tells_still}
use Rattle.fs_serial.proofs.Lists.Journals.{made_kept}
use Rattle.fs_serial.proofs.Paths.KeptPlaces.{left_alike}
use Rattle.fs_serial.proofs.Replies.Knowing.{In-filter_map, from-filter_map}
use Rattle.fs_serial.proofs.Returns.Lapsing.{same_records}
use Rattle.fs_serial.proofs.Transactions.Desks.{telling_append}
use Rattle.fs_serial.proofs.Transactions.OthersKeep.{sent_client, taken_client}
use Rattle.fs_serial.proofs.Transactions.RoundsLocks.{NoDecision}
use Rattle.fs_serial.proofs.WholeRuns.EndedSteps.{arrived_among}

module _ (k : ℕ) (c : Cluster) (s : Server) (at : slice_get c.servers k ≡ Some s) (e : ServerEvent) (x : Stepped) where
  abbrev pub then : Cluster
  then = after_step k e x c

  -- what is told then was told before, where the step tells nothing
  pub told_before : NoDecision k x.out.send → (key : Key) (place : ℕ) (effects : List Effect) → IsTold then key place effects
      → IsTold c key place effects
  told_before none key place effects i =
      let w : Told = word_to key place (Decide effects) in
      let left : List InFlight = without_arrived k e c.in_flight in
      elim (In-append w (telling_of left) (telling_of (in_flight_from k x.out.send))
      (subst (In w) (telling_append left (in_flight_from k x.out.send)) i)) as (λ _. IsTold c key place effects) [
        | inl j ↦
            let q = from-filter_map told_in w left j in
            In-filter_map told_in q.0 w c.in_flight (arrived_among k e c.in_flight q.0 q.1) q.2
        | inr j ↦ absurd (none key place effects j)
      ]

  -- clients' operations stay
  pub led_still : (y : Session) → (then.lines y).client.led ≡ (c.lines y).client.led
  led_still y = ap (λ (d : Client). d.led) (sent_client k x.out.send (without_question k e c.lines) y ∙ taken_client k e c.lines y)

  pub record IsQuiet : Type 0 where
    pub led : LedHolds then
    pub records : x.server.records ≡ s.records
    pub taken : parcels_of (without_arrived k e c.in_flight) ≡ parcels_of c.in_flight
    pub hands : parcels_of (in_flight_from k x.out.send) ≡ []
    pub tells : NoDecision k x.out.send
    pub here : KeepsFiles x.server
    -- a part that waits then waited before, or is told nothing
    pub prepared : (y : Ready) → In y x.server.prepared
        → In y s.prepared ⊎ ((place : ℕ) (effects : List Effect) → WaitsFor c y place effects → ⊥)
    pub modes : (l : Leading) → In l x.server.leading → (d : Led) → (c.lines l.leader.session).client.led ≡ Some d
        → FreezesFor d.kind l.leader.mode l.leader.op

  module _ (f : FilesKept c) (q : IsQuiet) where
    records_then : records_in then ≡ records_in c
    records_then =
        ap (records_of_all then.servers) (parcels-append (without_arrived k e c.in_flight) (in_flight_from k x.out.send)
        ∙ ap₂ (λ ps qs. ps ++ qs) q.taken q.hands ∙ append-nil (parcels_of c.in_flight))
        ∙ ap (with_parcels (parcels_of c.in_flight)) (same_records c.servers k s x.server empty at q.records)

    pub quiet_keeps : FilesKept then
    quiet_keeps = kept_after k s x.server c then at f (record {
      servers = refl;
      here = q.here;
      prepared = λ y i. elim (q.prepared y i) as
          (λ _. In y s.prepared ⊎ ((place : ℕ) (effects : List Effect) → WaitsFor then y place effects → ⊥)) [
            | inl was ↦ inl was
            | inr none ↦ inr (λ place effects told. none place effects (told_before q.tells (key_of y.txn y.number) place effects told))
          ];
      told = tells_still c then f q.led (told_before q.tells)
          (λ d i. left_alike (records_in c) (records_in then) d.effect records_then) (made_kept c.journal x.out.admitted);
      clients = led_still;
      modes = q.modes;
    })

-- the server's own tables stay
pub same_prepared : (c : Cluster) (s t : Server) → t.prepared ≡ s.prepared → (y : Ready) → In y t.prepared
    → In y s.prepared ⊎ ((place : ℕ) (effects : List Effect) → WaitsFor c y place effects → ⊥)
same_prepared c s t same y i = inl (subst (In y) same i)
