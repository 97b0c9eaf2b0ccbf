-- Entries that are admitted one by one, or together.
use Rattle.std.proofs.Common.{◌≡◌, ℕ, ◌+◌, zero, suc, List, [], ◌∷◌, refl, ap, sym, ◌∙◌, length, take, drop}
use Rattle.std.specs.Prelude.{Option, None, max}
use Rattle.fs_msg.specs.declared.entry.Entry.{Entry}
use Rattle.fs_field.specs.declared.effect.Effect.{Effect}
use Rattle.fs_view.specs.View.{View, admitted_front, lapsed_at, with_admitted, with_first_admitted, without_pins}
use Rattle.fs_view.proofs.Order.{lapse_before_front, unpin_after_front}
use Rattle.fs_client.specs.declared.state.Client.{Client}
use Rattle.fs_client.specs.Admitted.{freed}
use Rattle.fs_client.specs.Client.{admitted_all, begun, with_led_done, with_led_freed, with_shipped}
use Rattle.fs_client.specs.Led.{without_led_pins}

-- the client with this view and this log
abbrev pub with_log : Client → View → List Entry → Client
with_log c v log = record c { view = v; log = log }

-- none is there
none_left : (k : ℕ) (c : Client) (v : View) → admitted_all k (with_log c v []) ≡ with_log c v []
none_left zero c v = refl
none_left (suc k) c v = none_left k c v

-- what the first so many entries of a log leave
pub admitted_is : (k : ℕ) (c : Client) (log : List Entry) (v : View) → admitted_all k (with_log c v log) ≡ with_log c (freed (take k log) (admitted_front (length (take k log)) v)) (drop k log)
admitted_is zero c log v = refl
admitted_is (suc k) c [] v = none_left k c v
admitted_is (suc k) c (e ∷ es) v =
    admitted_is k c es (without_pins e.uses (with_first_admitted v))
    ∙ ap (λ (w : View). with_log c (freed (take k es) w) (drop k es)) (unpin_after_front (length (take k es)) e.uses (with_first_admitted v))

-- and where its leases lapse first
pub admitted_begun : (now k : ℕ) (c : Client) (log : List Entry) (v : View) → with_log c (freed (take k log) (lapsed_at now (admitted_front (length (take k log)) v))) (drop k log) ≡ admitted_all k (with_log c (lapsed_at now v) log)
admitted_begun now k c log v =
    ap (λ (w : View). with_log c (freed (take k log) w) (drop k log)) (lapse_before_front now (length (take k log)) v)
    ∙ sym (admitted_is k c log (lapsed_at now v))

-- ## As a commit does it

-- the client once the log is handed in so far
abbrev pub shipped_with : Option ℕ → Client → View → List Entry → Client
shipped_with over c v log = record c { view = v; log = log; exchange = None; over = over }

abbrev pub shipped_after : Option ℕ → ℕ → Client → Client
shipped_after over count c = shipped_with over c (freed (take count c.log) c.view) (drop count c.log)

pub shipped_is : (now count some : ℕ) (over : Option ℕ) (c b : Client) (v : View) (log : List Entry)
    → some ≡ length (take count c.log) → b ≡ begun now (record c { view = admitted_front some c.view })
    → v ≡ freed (take count b.log) b.view → log ≡ drop count b.log
    → shipped_with over b v log ≡ with_shipped count over (begun now c)
shipped_is now count some over c b v log hs hb hv hl =
    ap (λ (w : View). shipped_with over b w log) hv
    ∙ ap (λ (l : List Entry). shipped_with over b (freed (take count b.log) b.view) l) hl
    ∙ ap (shipped_after over count) hb
    ∙ ap (λ (n : ℕ). shipped_after over count (begun now (record c { view = admitted_front n c.view }))) hs
    ∙ ap (λ (x : Client). record x { over = over; exchange = None }) (admitted_begun (max c.last now) count (begun now c) c.log c.view)

-- ## What was led

-- its effects join the values before or after leases lapse
lapse_before_led : (now : ℕ) (effects : List Effect) (v : View) → lapsed_at now (with_admitted effects v) ≡ with_admitted effects (lapsed_at now v)
lapse_before_led now effects v = ap (λ (w : View). record v { leases = w.leases }) (lapse_before_front now 1 (record v { pending = effects ∷ [] }))

-- the client once it is done
pub led_done_is : (now : ℕ) (effects : List Effect) (c b : Client) → b ≡ with_led_freed (begun now (record c { view = with_admitted effects c.view }))
    → record b { next = b.next + 1 } ≡ with_led_done effects (begun now c)
led_done_is now effects c b e =
    ap (λ (x : Client). record x { next = x.next + 1 }) e
    ∙ ap (λ (v : View). record c { last = max c.last now; view = without_led_pins c.led v; exchange = None; led = None; next = c.next + 1 }) (lapse_before_led (max c.last now) effects c.view)
