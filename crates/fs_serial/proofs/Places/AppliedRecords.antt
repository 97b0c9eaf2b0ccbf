-- The records of all, where one server applies effects on files that it manages.
use Rattle.std.proofs.Common.{◌≡◌, ℕ, true, false, List, sym, ap, ◌∙◌, subst}
use Rattle.std.specs.Prelude.{Some, is_some, slice_get, slice_set}
use Rattle.std.specs.FinMap.{entries, get}
use Rattle.fs_ident.specs.In.{In}
use Rattle.fs_ident.proofs.Standing.{In-front}
use Rattle.fs_field.specs.declared.effect.Effect.{Effect}
use Rattle.fs_record.specs.Applied.{records_after_all}
use Rattle.fs_record.specs.Moving.{with_records}
use Rattle.fs_record.specs.declared.record.Record.{Record}
use Rattle.fs_server.specs.Server.{is_mine}
use Rattle.fs_server.specs.declared.state.Server.{Server}
use Rattle.fs_serial.specs.Cluster.{Cluster, parcels_of}
use Rattle.fs_serial.specs.Joined.{records_of_all}
use Rattle.fs_serial.specs.Places.{PlacesHold}
use Rattle.fs_serial.proofs.Places.ClusterPlaces.{IsBetween, all_here, apart_of, between, records_joined, records_of_servers, rest_of}
use Rattle.fs_serial.proofs.Places.OtherPlaces.{IsApart, Rest, effects_apart, effects_joined}
use Rattle.fs_serial.proofs.Places.PutRecords.{AreOn, AreOther, entry_has}

module _ (k : ℕ) (c : Cluster) (s t : Server) (at : slice_get c.servers k ≡ Some s) (places : PlacesHold c) (es : List Effect)
    (on : AreOn (is_mine s) es) (then : t.records ≡ records_after_all s.records es) where
  b : IsBetween c.servers k s
  b = between c.servers k s at

  abbrev rest : Rest
  rest = rest_of b.front b.back (parcels_of c.in_flight)

  apart : IsApart rest s
  apart = apart_of c k s places b

  other_files : (e : List ℕ × Record) → In e (records_of_servers b.front) → AreOther e.0 (entries t.records)
  other_files e i z j q =
      let there : is_some (get (records_after_all s.records es) z.0) ≡ true =
      subst (λ m. is_some (get m z.0) ≡ true) then (entry_has t.records z j) in
      let here : is_mine s z.0 ≡ true = effects_apart rest s apart es on z.0 there in
      let off : is_mine s e.0 ≡ false = apart.records e (In-front e (records_of_servers b.front) _ i) in
      let wrong : true ≡ false = sym here ∙ ap (is_mine s) q ∙ off in
      absurd (cc)

  pub records_applied : records_of_all (slice_set c.servers k t) (parcels_of c.in_flight)
      ≡ records_after_all (records_of_all c.servers (parcels_of c.in_flight)) es
  records_applied =
      ap (λ ss. records_of_all ss (parcels_of c.in_flight)) (b.set t)
      ∙ records_joined b.front b.back (parcels_of c.in_flight) t other_files
      ∙ ap (with_records rest.records) then
      ∙ sym (effects_joined rest s apart es on)
      ∙ ap (λ (u : Server). records_after_all u.records es) (sym (all_here c k s places b))
