-- Steps of the loops over needs.
use Rattle.std.proofs.Common.{◌≡◌, ℕ, ◌+◌, ◌<◌, true, false, List, [], ◌∷◌, refl, ap, cond, length, get_or, drop, sym, ◌∙◌}
use Rattle.std.specs.Prelude.{Some, None, is_some, unwrap_or}
use Rattle.std.specs.List.{cons_option, slice_get}
use Rattle.std.proofs.lemmas.List.{drop_more}
use Rattle.fs_field.specs.declared.asked.Need.{Need}
use Rattle.fs_field.specs.declared.asked.Need.TheVariants.{Lease, Fresh}
use Rattle.fs_msg.specs.declared.act.Act.{Act}
use Rattle.fs_msg.specs.declared.act.Act.TheVariants as act
use Rattle.fs_msg.specs.declared.act.Busy.TheVariants as busy
use Rattle.fs_client.specs.declared.plan.Plan.{Plan}
use Rattle.fs_client.specs.declared.state.Client.{Client}
use Rattle.fs_model.specs.declared.op.Op.{Op}
use Rattle.fs_view.specs.declared.walk.Walk.{Walk}
use Rattle.fs_view.specs.View.{reply_in, walk_in}
use Rattle.fs_client.specs.Live.{absent_from}
use Rattle.fs_client.specs.Acts.{answer_with, ask_for, asks, fresh_asked, full_one, hinted, item_of, items_of, need_file, stays, worth}
use Rattle.fs_client.specs.Client.{can_change}

pub items_step : (needs : List Need) (i : ℕ) (d : Need) → i < length needs → items_of (drop i needs) ≡ cons_option (item_of (get_or needs i d)) (items_of (drop (i + 1) needs))
items_step needs i d h = rw (drop_more needs i d h)

pub fresh_step : (needs : List Need) (i : ℕ) (n : Need) → i < length needs → n ≡ get_or needs i n → fresh_asked (drop i needs) ≡ fresh_asked (n ∷ drop (i + 1) needs)
fresh_step needs i n h e = ap fresh_asked (drop_more needs i n h ∙ ap (λ (x : Need). x ∷ drop (i + 1) needs) (sym e))

-- ## What is missing

full_is : (needs : List Need) (c : Client) → full_one needs c ≡ stays (act.NoIds (unwrap_or (fresh_asked needs) [])) c
full_is [] c = refl
full_is (Lease field kind ∷ needs) c = full_is needs c
full_is (Fresh dir ∷ needs) c = refl

pub nothing_worth : (needs ns : List Need) (c : Client) → slice_get ns 0 ≡ None → ask_for needs ns c ≡ stays (act.NoIds (unwrap_or (fresh_asked needs) [])) c
nothing_worth needs [] c h = full_is needs c
nothing_worth needs (n ∷ ns) c h = absurd (cc h)

pub something_worth : (needs ns : List Need) (n : Need) (c : Client) → slice_get ns 0 ≡ Some n → ask_for needs ns c ≡ cond (is_some c.exchange) (stays (act.Busy busy.Exchange) c) (asks (hinted c (need_file n)) ns c)
something_worth needs [] n c h = absurd (cc h)
something_worth needs (m ∷ ns) n c h = let q : m ≡ n = cc h in ap (λ x. cond (is_some c.exchange) (stays (act.Busy busy.Exchange) c) (asks (hinted c (need_file x)) (m ∷ ns) c)) q

pub asking_can : (needs ns : List Need) (c : Client) → can_change (ask_for needs ns c).ready.change c ≡ true
asking_can needs [] c = ap (λ (p : Plan Act). can_change p.ready.change c) (full_is needs c)
asking_can needs (n ∷ ns) c = elim (is_some c.exchange) as (λ b. can_change (cond b (stays (act.Busy busy.Exchange) c) (asks (hinted c (need_file n)) (n ∷ ns) c)).ready.change c ≡ true) [ true ↦ refl | false ↦ refl ]

-- what is missing is asked for
pub asking_is : (c : Client) (o : Op) (w : Walk) (p : Plan Act) → w ≡ walk_in c.view c.last o → w.reply ≡ None → p ≡ ask_for (absent_from c w.items) (worth c.full (absent_from c w.items)) c → p ≡ answer_with (reply_in c.view c.last o) o c
asking_is c o w p e n q =
    let r : reply_in c.view c.last o ≡ None = ap (λ (x : Walk). x.reply) (sym e) ∙ n in
    q
    ∙ (ap (λ (x : Walk). ask_for (absent_from c x.items) (worth c.full (absent_from c x.items)) c) e
    ∙ ap (λ reply. answer_with reply o c) (sym r))
