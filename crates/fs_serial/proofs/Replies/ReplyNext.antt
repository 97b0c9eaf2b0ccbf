-- A client's next entry, by what its leases tell.
use Rattle.std.proofs.Common.{◌≡◌, ℕ, ◌+◌, ◌==◌, ◌&&◌, true, false, List, [], ◌∷◌, ◌++◌, ◌⊎◌, length, map, refl, sym, ap, ◌∙◌, subst, inl, inr, arith, length-append}
use Rattle.std.specs.Prelude.{Option, Some, None, is_some, option_map}
use Rattle.std.specs.List.{list_any}
use Rattle.std.proofs.Math.Seq.{take-append_seam}
use Rattle.std.proofs.lemmas.Bool.Decides.{nat_tests}
use Rattle.fs_ident.specs.In.{In}
use Rattle.fs_ident.specs.Ident.{child, same}
use Rattle.fs_ident.specs.declared.actor.LeaseNo.{LeaseNo}
use Rattle.fs_ident.specs.declared.actor.Session.{Session}
use Rattle.fs_ident.proofs.Booleans.{neither, joined}
use Rattle.fs_ident.proofs.Same.{same_is, same_self}
use Rattle.fs_field.specs.declared.asked.Need.{Need}
use Rattle.fs_field.specs.declared.asked.Need.TheVariants as need
use Rattle.fs_field.specs.declared.field.Field.{Field}
use Rattle.fs_field.specs.declared.field.Field.TheVariants.{Life}
use Rattle.fs_field.specs.declared.lease_kind.LeaseKind.{LeaseKind}
use Rattle.fs_field.specs.declared.lease_kind.LeaseKind.TheVariants.{Exclusive}
use Rattle.fs_field.specs.declared.used.Use.{Use}
use Rattle.fs_field.specs.declared.value.Value.{Value}
use Rattle.fs_field.specs.declared.value.Value.TheVariants as value
use Rattle.fs_field.specs.Field.{file_of}
use Rattle.fs_field.specs.Table.{is_parent}
use Rattle.fs_lease.specs.Lease.{Lease as Term}
use Rattle.fs_model.specs.Asking.{home_of, may_ask}
use Rattle.fs_model.specs.Step.{is_child}
use Rattle.fs_model.specs.declared.op.Op.{Op}
use Rattle.fs_model.specs.declared.reply.Reply.{Reply}
use Rattle.fs_model.proofs.SoundRuns.{asks_access}
use Rattle.fs_msg.specs.declared.answer.Answer.{Answer}
use Rattle.fs_msg.specs.declared.entry.Entry.{Entry}
use Rattle.fs_record.specs.Effects.{tells_its_effects}
use Rattle.fs_client.specs.Acts.{entry_of}
use Rattle.fs_client.specs.declared.state.Client.{Client}
use Rattle.fs_view.specs.declared.view_lease.ViewLease.{ViewLease}
use Rattle.fs_view.specs.declared.view_lease.Standing.{Standing}
use Rattle.fs_view.specs.declared.view_lease.Standing.TheVariants.{Held, Pinned, Leaving}
use Rattle.fs_view.specs.Gone.{IsUnread, known_with}
use Rattle.fs_view.specs.ViewLease.{lease_of, use_of, is_enough, file_in, makes, is_pending}
use Rattle.fs_view.specs.Script.{script_of}
use Rattle.fs_view.specs.View.{View, known_by, given_by, fresh, item_use, walk_in, reply_in, value_after_log}
use Rattle.fs_view.specs.Walk.{walk, always}
use Rattle.fs_view.proofs.Unread.{alike_but_gone}
use Rattle.fs_serial.specs.Client.{ClientFits}
use Rattle.fs_serial.specs.Fresh.{HoldsFresh}
use Rattle.fs_serial.specs.Leases.{IsFresh, FreshLeases}
use Rattle.fs_serial.specs.Pending.{IsAnswer, AreEntries, HasUse, NamesItsFile, UsesAtHome, named_by}
use Rattle.fs_serial.specs.Settled.{Lease, Settled, lease_in, lease_with, settled_now, settled, effects_in}
use Rattle.fs_serial.proofs.Admission.Births.{makes_there, named_makes}
use Rattle.fs_serial.proofs.Replies.HomeAsks.{IsGivenHere, MayGive, called_home, given_home, home_with_id, items_home, names_fresh}
use Rattle.fs_serial.proofs.Replies.Knowing.{In-filter_map, all_there, from-filter_map, IsKnown, known_by_lease, IsOffered, offered_by_lease, used_there, IsUseOf, use_from}
use Rattle.fs_serial.proofs.Replies.Naming.{Covers, IsGivenFor, IsNamedFor, named_for, names_its_file, plain_with_id, access_with_id, right_with_id}
use Rattle.fs_serial.proofs.Replies.Reply.{IsNext, IsOfLease, value_seen}
use Rattle.fs_serial.proofs.ClientMessages.Settling.{Later, later, is_made_by_log, settled_log, settled_next, settled_unled}

-- ## Standings

file_is : (s : Standing) (l : Term) → lease_of s ≡ Some l → file_in s ≡ file_of l.field
file_is (Held x) l e = let q : x ≡ l = cc in ap (λ (l : Term). file_of l.field) q
file_is (Pinned u) l e = let q : u.lease ≡ l = cc in ap (λ (l : Term). file_of l.field) q
file_is (Leaving x) l e = absurd (cc)

parent_is : (dir : List ℕ) (o : Option (List ℕ)) → is_parent dir o ≡ true → o ≡ Some dir
parent_is dir None h = absurd (cc)
parent_is dir (Some other) h = ap Some (same_is other dir h)

child_there : (dir : List ℕ) (k : ℕ) → is_child dir (child dir k) ≡ true
child_there dir k =
    let n : length (dir ++ k ∷ []) ≡ length dir + 1 = length-append dir (k ∷ []) ∙ omega arith in
    let p : (length dir + 1 == length (dir ++ k ∷ [])) ≡ true = grind (arith, nat_tests) in
    joined _ _ p (ap (λ xs. same xs dir) (take-append_seam dir (k ∷ [])) ∙ same_self dir)

-- ## Logs that do not make a file

none_makes : (by : Session) (es : List Entry) (id : List ℕ) → is_made_by_log by id es ≡ false → (e : Entry) → In e es → list_any (makes id) (effects_in by e) ≡ false
none_makes by [] id h e i = absurd i
none_makes by (x ∷ es) id h e i =
    let q = neither (list_any (makes id) (effects_in by x)) (is_made_by_log by id es) h in
    elim i as (λ _. list_any (makes id) (effects_in by e) ≡ false) [ inl p ↦ ap (λ y. list_any (makes id) (effects_in by y)) p ∙ q.0 | inr j ↦ none_makes by es id q.1 e j ]

module _ (by : Session) (c : Client) (answers : List Answer) (o : Op) (r : Reply) (replied : reply_in c.view c.last o ≡ Some r) (cf : ClientFits by c) (unled : c.led ≡ None) where
  abbrev v : View
  v = c.view

  abbrev d : Settled
  d = settled by answers (settled_now c)

  abbrev e : Entry
  e = entry_of o r c

  pub there : is_some (walk_in v c.last o).reply ≡ true
  there = ap is_some replied

  -- a lease of the client as it will be
  kept_later : (k : ViewLease) (l : Term) → In k v.leases → lease_of k.standing ≡ Some l → Later by (settled_now c) d (lease_with k l)
  kept_later k l i is = later by answers (settled_now c) (lease_with k l) unled (In-filter_map lease_in k (lease_with k l) v.leases i (ap (option_map (lease_with k)) is))

  pub of_lease : (u : Use) → In u e.uses → IsOfLease d.leases u
  of_lease u i =
      let q : IsUseOf v c.last u = use_from v c.last o u there i in
      let p = kept_later q.kept q.lease q.among q.is in
      record { lease = p.lease; held = p.held; number = p.number ∙ ap (λ (u : Use). u.no) q.used; field = p.field ∙ ap (λ (u : Use). u.field) q.used; kind = p.kind ∙ ap (λ (u : Use). u.kind) q.used; until = p.until ∙ ap (λ (u : Use). u.until) q.used }

  -- ### The answer

  module _ (values : Field → Value) (agree : (l : Lease) → In l d.leases → (u : Use) → In u e.uses → l.no ≡ u.no → IsUnread values l.field ⊎ (values l.field ≡ value_seen by d l)) where
    pub has_too : (field : Field) (kind : LeaseKind) → In (need.Lease field kind) (walk_in v c.last o).items → IsUnread values field ⊎ (Some (values field) ≡ known_by v c.last field kind)
    has_too field kind i =
        let k : IsKnown v c.last field kind = known_by_lease v c.last field kind (all_there (known_by v c.last) (given_by v c.last) (script_of o) there (need.Lease field kind) i) in
        let l : Term = k.serving.lease in
        let p : Later by (settled_now c) d (lease_with k.kept l) = kept_later k.kept l k.among k.serving.is in
        elim (agree p.lease p.held (use_of l) (used_there v c.last o (need.Lease field kind) (use_of l) i k.used) p.number) as (λ _. IsUnread values field ⊎ (Some (values field) ≡ known_by v c.last field kind)) [
          | inl gone ↦ inl (subst (IsUnread values) (p.field ∙ k.serving.on) gone)
          | inr same ↦ inr (
              ap Some (ap values (sym k.serving.on ∙ sym p.field) ∙ same ∙ p.seen ∙ ap (λ g. value_after_log by g k.kept.base (map (effects_in by) c.log)) k.serving.on)
              ∙ ap (λ log. Some (value_after_log by field k.kept.base log)) (sym cf.pending)
              ∙ ap (λ s. Some (value_after_log s field k.kept.base v.pending)) (sym cf.viewed)
              ∙ sym k.value)
        ]

    pub walked : walk (known_with values) always o ≡ walk_in v c.last o
    walked = alike_but_gone (known_by v c.last) (given_by v c.last) values o there has_too

    pub covers : Covers e.uses (walk (known_with values) always o).items
    covers field kind i =
        let j = subst (λ w. In (need.Lease field kind) w.items) walked i in
        let k : IsKnown v c.last field kind = known_by_lease v c.last field kind (all_there (known_by v c.last) (given_by v c.last) (script_of o) there (need.Lease field kind) j) in
        record { used = use_of k.serving.lease; among = used_there v c.last o (need.Lease field kind) (use_of k.serving.lease) j k.used; field = k.serving.on; enough = k.serving.enough }

  module _ (plain : tells_its_effects o ≡ true) (may : may_ask o ≡ true) (new : FreshLeases d.leases) (entries : AreEntries d.log) where
    -- ### The identifier

    -- a lease reserves it, and an exclusive one on that file's life is used
    pub record IsReservedFor (dir : List ℕ) : Type 0 where
      pub id : List ℕ
      pub offered : fresh v c.last dir ≡ Some id
      pub lease : Lease
      pub held : In lease d.leases
      pub below : lease.below ≡ Some dir
      pub field : lease.field ≡ Life id
      pub child : is_child dir id ≡ true
      pub used : Use
      pub among : In used e.uses
      pub on : used.field ≡ Life id
      pub enough : is_enough used.kind Exclusive ≡ true
      pub item : item_use v c.last (need.Fresh dir) ≡ Some used
      -- no entry of the log makes it, nor of what will be left of it
      pub unmade : is_made_by_log by id c.log ≡ false
      pub unmade_later : is_made_by_log by id d.log ≡ false

    reserved_for : (dir : List ℕ) → In (need.Fresh dir) (walk_in v c.last o).items → IsReservedFor dir
    reserved_for dir i =
        let q : IsOffered v c.last dir = offered_by_lease v c.last dir (all_there (known_by v c.last) (given_by v c.last) (script_of o) there (need.Fresh dir) i) in
        let l : Term = q.serving.lease in
        let p : Later by (settled_now c) d (lease_with q.kept l) = kept_later q.kept l q.among q.serving.is in
        let at : file_in q.kept.standing ≡ file_of l.field = file_is q.kept.standing l q.serving.is in
        let unmade : is_made_by_log by (file_of l.field) c.log ≡ false = ap (is_pending (file_of l.field)) (sym cf.pending) ∙ ap (λ i. is_pending i v.pending) (sym at) ∙ q.unmade in
        let below : p.lease.below ≡ Some dir = p.below unmade ∙ parent_is dir q.kept.below q.below in
        let f : IsFresh dir p.lease = new p.lease p.held dir below in
        let on : l.field ≡ Life (child dir f.number) = sym p.field ∙ f.field in
        let file : file_of l.field ≡ child dir f.number = ap file_of on in
        record {
          id = child dir f.number;
          offered = q.fresh ∙ ap Some (at ∙ file);
          lease = p.lease;
          held = p.held;
          below = below;
          field = f.field;
          child = child_there dir f.number;
          used = use_of q.taken.lease;
          among = used_there v c.last o (need.Fresh dir) (use_of q.taken.lease) i q.used;
          on = q.taken.on ∙ ap (λ i. Life i) (at ∙ file);
          enough = q.taken.enough;
          item = q.used;
          unmade = ap (λ i. is_made_by_log by i c.log) (sym file) ∙ unmade;
          unmade_later = ap (λ i. is_made_by_log by i d.log) (sym file) ∙ p.unmade unmade;
        }

    called : (tells_its_effects o && may_ask o) ≡ true
    called = joined (tells_its_effects o) (may_ask o) plain may

    -- the entry names it
    names_it : (dir : List ℕ) → In (need.Fresh dir) (walk_in v c.last o).items → named_by e.op ≡ fresh v c.last dir
    names_it dir i =
        let g : IsGivenHere (MayGive o) (home_of o) dir r = given_home (MayGive o) (known_by v c.last) (given_by v c.last) (home_of o) (script_of o) (called_home o called) dir r i replied in
        names_fresh v c.last o r g.allowed g.made ∙ ap (fresh v c.last) (sym g.below)

    -- and all that it names is so
    named_at : (id : List ℕ) → named_by e.op ≡ Some id → (dir : List ℕ) × (q : IsReservedFor dir) × (q.id ≡ id)
    named_at id is =
        let n : IsNamedFor v c.last o r id = named_for v c.last o r id may is in
        let q : IsReservedFor n.dir = reserved_for n.dir (n.asked (known_by v c.last) (given_by v c.last) replied) in
        let same : q.id ≡ id = cc (q.offered, n.offered) in
        (n.dir, q, same)

    has_use : (dir : List ℕ) (q : IsReservedFor dir) → HasUse e.uses (Life q.id) Exclusive
    has_use dir q = record { used = q.used; among = q.among; field = q.on; enough = q.enough }

    -- ### The answer with it

    module _ (values : Field → Value) (agree : (l : Lease) → In l d.leases → (u : Use) → In u e.uses → l.no ≡ u.no → IsUnread values l.field ⊎ (values l.field ≡ value_seen by d l)) where
      module _ (unborn : (id : List ℕ) → named_by e.op ≡ Some id → values (Life id) ≡ value.Life None) where
        given_for : (dir : List ℕ) → In (need.Fresh dir) (walk (known_with values) always o).items → IsGivenFor values e.uses v c.last dir
        given_for dir i =
            let j = subst (λ w. In (need.Fresh dir) w.items) (walked values agree) i in
            let q : IsReservedFor dir = reserved_for dir j in
            record { id = q.id; offered = q.offered; unborn = unborn q.id (names_it dir j ∙ q.offered); used = has_use dir q }

        right : IsAnswer values e
        right = let q = right_with_id values e.uses v c.last o r plain may (ap (λ w. w.reply) (walked values agree) ∙ replied) (covers values agree) given_for in record { reply = q.reply; covered = q.covered }

    -- ### Where it is handed in

    at_home : UsesAtHome e.op e.uses
    at_home u i =
        let q = from-filter_map (item_use v c.last) u (walk_in v c.last o).items i in
        subst (λ home. (file_of u.field ≡ home) ⊎ (named_by e.op ≡ Some (file_of u.field))) (sym (home_with_id v c.last o r)) (of_item q.0 q.1 q.2)
      where
        of_item : (n : Need) → In n (walk_in v c.last o).items → item_use v c.last n ≡ Some u → (file_of u.field ≡ home_of o) ⊎ (named_by e.op ≡ Some (file_of u.field))
        of_item (need.Lease field kind) j is =
            let k : IsKnown v c.last field kind = known_by_lease v c.last field kind (all_there (known_by v c.last) (given_by v c.last) (script_of o) there (need.Lease field kind) j) in
            let same : use_of k.serving.lease ≡ u = cc (k.used, is) in
            let home = items_home (MayGive o) (known_by v c.last) (given_by v c.last) (home_of o) (script_of o) (called_home o called) (need.Lease field kind) j in
            inl (ap (λ (x : Use). file_of x.field) (sym same) ∙ ap file_of k.serving.on ∙ home.1)
        of_item (need.Fresh dir) j is =
            let q : IsReservedFor dir = reserved_for dir j in
            let same : q.used ≡ u = cc (q.item, is) in
            let file : file_of u.field ≡ q.id = ap (λ (x : Use). file_of x.field) (sym same) ∙ ap file_of q.on in
            inr (names_it dir j ∙ q.offered ∙ ap Some (sym file))

    -- ### The entry

    named : NamesItsFile e.uses e.op r
    named = names_its_file e.uses v c.last o r (known_by v c.last) (given_by v c.last) may replied (λ dir i.
        let q : IsReservedFor dir = reserved_for dir i in
        (q.id, q.offered, record { used = has_use dir q; child = q.child }))

    once : (f : Entry) (id : List ℕ) → In f d.log → named_by f.op ≡ Some id → named_by e.op ≡ Some id → ⊥
    once f id i a b =
        let q = named_at id b in
        let made : list_any (makes id) (effects_in by f) ≡ true = makes_there by f.op f.reply id ∙ named_makes f.uses f.op f.reply id (entries f i).named a in
        let not_made : list_any (makes id) (effects_in by f) ≡ false = none_makes by c.log id (ap (λ i. is_made_by_log by i c.log) (sym q.2) ∙ q.1.unmade) f (settled_log by answers (settled_now c) f i) in
        absurd (let z : true ≡ false = sym made ∙ not_made in cc)

    reserved : (id : List ℕ) → named_by e.op ≡ Some id → (n : LeaseNo) × HoldsFresh d.leases n id
    reserved id is =
        let q = named_at id is in
        (q.1.lease.no, record { lease = q.1.lease; held = q.1.held; number = refl; fresh = ap is_some q.1.below; file = ap file_of q.1.field ∙ q.2 })

    pub next : IsNext by d e
    next = record {
      number = sym (settled_next by answers (settled_now c) unled);
      unled = settled_unled by answers (settled_now c) unled;
      of_lease = of_lease;
      right = right;
      entry = record { plain = plain_with_id v c.last o r plain; access = access_with_id v c.last o r (asks_access o may); named = named; home = at_home };
      reserved = reserved;
      unmade = λ id is. let q = named_at id is in ap (λ i. is_made_by_log by i d.log) (sym q.2) ∙ q.1.unmade_later;
      once = once;
    }
