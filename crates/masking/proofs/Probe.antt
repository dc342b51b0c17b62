-- The one tape, at any place where masks u, v, u XOR v meet three shares, whatever came before. Assumes nothing.
use Rattle.prelude.proofs.{◌≡◌, refl, sym, ap, ap₂, ◌∙◌, inl, inr, List, ◌++◌, ℕ, ◌+◌, ◌≤◌, ◌<◌, arith, length, get_or, ext_get_or}
use Rattle.blocks.specs.Bytes.{◌⊕◌, Block, Bytes, put}
use Rattle.blocks.proofs.Xor.{⊕-assoc, ⊕-comm, ⊕-block, ⊕-cancel, ⊕-injective, ⊕-injective-right}
use Rattle.blocks.proofs.Parts.{put-length}
use Rattle.masking.specs.Shares.{Index, i₀, i₁, i₂, next, Shares, Blocks, add, spread, Reader, at, pair_size, masks_at}
use Rattle.masking.specs.OneTape.{ExactlyOne, Outside, Alike, lane_mask, Shows, every}
use Rattle.masking.proofs.Tape.{Where, outside, inside, where-is, at_reads, at-ext, at-inside, put-outside, put-bytes, put-at}
use Rattle.masking.proofs.Tape.{put-agree, append-parts}
use Rattle.masking.proofs.{Shape.Reads, Shape.add-blocks, Shape.masks_at-blocks, Causal.Agree}

-- A place in a shared computation that reads a tape: the masks c, d of the key given stand at a, the place's masks u, v at o.
-- `before` is what the masks u, v, u XOR v meet.
pub record Probe (a o : ℕ) : Type 0 where
  pub given : Shares
  pub before : Reader → Shares
  pub given-blocks : Blocks given
  pub before-blocks : (M : Reader) → Reads M o → Blocks (before M)
  -- nothing before the masks hangs on them or on what stands behind them
  pub before-causal : (M N : Reader) → Agree M N o → before M ≡ before N

-- how a key share is shown: no two blocks alike
pub record Turn (turn : List ℕ → List ℕ) : Type 0 where
  pub turn-injective : (k l : List ℕ) → Block k → Block l → turn k ≡ turn l → k ≡ l

module _ {a o : ℕ} (P : Probe a o) (M : Reader) where
  -- the state shares after the masks, and the masked key shares
  unfoldable pub met : Shares
  met = add (P.before M) (masks_at M o)

  unfoldable pub keyed : Shares
  keyed = add P.given (masks_at M a)

-- lane i, 48 bytes
unfoldable pub shows : {a o : ℕ} → Probe a o → (List ℕ → List ℕ) → Reader → Index → List ℕ
shows P turn M i = met P M (next i) ++ (met P M (next (next i)) ++ turn (keyed P M i))

-- ---- masks

-- two of the three masks give u and v
spread-injective : (i : Index) {u v u' v' : List ℕ} → Block u → Block v → Block u' → Block v'
    → spread u v (next i) ≡ spread u' v' (next i) → spread u v (next (next i)) ≡ spread u' v' (next (next i)) → (u ≡ u') × (v ≡ v')
spread-injective i₀ {u} {v} {u'} {v'} p q p' q' e f = (⊕-injective-right q p p' (f ∙ ap (λ (l : List ℕ). u' ⊕ l) (sym e)), e)
spread-injective i₁ {u} {v} {u'} {v'} p q p' q' e f = (f, ⊕-injective p q q' (e ∙ ap (λ (l : List ℕ). l ⊕ v') (sym f)))
spread-injective i₂ p q p' q' e f = (e, f)

-- and can be any two blocks
record Masks (i : Index) (p q : List ℕ) : Type 0 where
  u : List ℕ
  v : List ℕ
  u-block : Block u
  v-block : Block v
  first : spread u v (next i) ≡ p
  second : spread u v (next (next i)) ≡ q

masks-for : (i : Index) {p q : List ℕ} → Block p → Block q → Masks i p q
masks-for i₀ {p} {q} h k =
    record { u = p ⊕ q; v = p; u-block = ⊕-block h k; v-block = h; first = refl; second = ⊕-comm (p ⊕ q) p ∙ ⊕-cancel h k }
masks-for i₁ {p} {q} h k = record {
  u = q;
  v = p ⊕ q;
  u-block = k;
  v-block = ⊕-block h k;
  first = ap (λ (l : List ℕ). q ⊕ l) (⊕-comm p q) ∙ ⊕-cancel k h;
  second = refl;
}
masks-for i₂ {p} {q} h k = record { u = p; v = q; u-block = h; v-block = k; first = refl; second = refl }

-- the key mask that makes of the second's given share the first's masked share
shift : {g m h : List ℕ} → Block g → Block m → Block h → h ⊕ (m ⊕ (g ⊕ h)) ≡ g ⊕ m
shift {g} {m} {h} p q r =
    ap (λ (l : List ℕ). h ⊕ l) (sym (⊕-assoc m g h) ∙ ⊕-comm (m ⊕ g) h) ∙ ⊕-cancel r (⊕-block q p) ∙ ⊕-comm m g

-- ---- tapes

-- the key mask's bytes given, they agree below o
alike-agree : (a o : ℕ) (t u : List ℕ) → length t ≡ length u → o ≤ length t → Alike a o t u → at t a ≡ at u a → Agree (at t) (at u) o
alike-agree a o t u e h f g p k = at-ext t u p (omega arith) e (λ j l m. go j (omega arith) (where-is a 16 j))
  where
    go : (j : ℕ) → j < o → Where a 16 j → get_or t j 0 ≡ get_or u j 0
    go j m (outside z) = f j z (inl m)
    go j m (inside v w) = at-inside t u a j g v w

alike-equal : (a o : ℕ) (t u : List ℕ) → length t ≡ length u → Alike a o t u
    → at t a ≡ at u a → at t o ≡ at u o → at t (o + 16) ≡ at u (o + 16) → t ≡ u
alike-equal a o t u e f g g₁ g₂ = ext_get_or 0 t u e (λ j k. go j (where-is a 16 j) (where-is o 16 j) (where-is (o + 16) 16 j))
  where
    go : (j : ℕ) → Where a 16 j → Where o 16 j → Where (o + 16) 16 j → get_or t j 0 ≡ get_or u j 0
    go j (inside v w) y z = at-inside t u a j g v w
    go j (outside x) (inside v w) z = at-inside t u o j g₁ v w
    go j (outside x) (outside y) (inside v w) = at-inside t u (o + 16) j g₂ v w
    go j (outside x) (outside (inl y)) (outside z) = f j x (inl y)
    go j (outside x) (outside (inr y)) (outside (inl z)) = absurd (omega arith)
    go j (outside x) (outside (inr y)) (outside (inr z)) = f j x (inr (omega arith))

-- w is t with three blocks written over it: κ at a, and u, v at o
record Written (t : List ℕ) (a o : ℕ) (κ u v w : List ℕ) : Type 0 where
  long : length w ≡ length t
  all-bytes : Bytes w
  alike : Alike a o w t
  there : at w a ≡ κ
  first : at w o ≡ u
  second : at w (o + 16) ≡ v
  agree : Agree (at w) (at (put a κ t)) o

written : (t : List ℕ) (a o : ℕ) {κ u v : List ℕ} → Bytes t → Block κ → Block u → Block v → a + 16 ≤ o → o + pair_size ≤ length t
    → Written t a o κ u v (put (o + 16) v (put o u (put a κ t)))
written t a o {κ} {u} {v} bt bk bu bv h k =
    let t₁ = put a κ t in
    let t₂ = put o u t₁ in
    let l₁ : length t₁ ≡ length t = put-length a κ t (omega (arith, bk.size)) in
    let l₂ : length t₂ ≡ length t₁ = put-length o u t₁ (omega (arith, bu.size)) in
    let l₃ : length (put (o + 16) v t₂) ≡ length t₂ = put-length (o + 16) v t₂ (omega (arith, bv.size)) in
    let in₁ : a + 16 ≤ length t = omega arith in
    let in₂ : o + 16 ≤ length t₁ = omega arith in
    let in₃ : o + 16 + 16 ≤ length t₂ = omega arith in
    record {
      long = l₃ ∙ l₂ ∙ l₁;
      all-bytes = put-bytes t₂ (o + 16) bv in₃ (put-bytes t₁ o bu in₂ (put-bytes t a bk in₁ bt));
      alike = λ j p q. put-outside t₂ (o + 16) bv in₃ j (upper j q) ∙ put-outside t₁ o bu in₂ j (lower j q) ∙ put-outside t a bk in₁ j p;
      there = put-agree t₂ (o + 16) bv in₃ a (omega arith) ∙ put-agree t₁ o bu in₂ a h ∙ put-at t a bk in₁;
      first = put-agree t₂ (o + 16) bv in₃ o (omega arith) ∙ put-at t₁ o bu in₂;
      second = put-at t₂ (o + 16) bv in₃;
      agree = λ p q. put-agree t₂ (o + 16) bv in₃ p (omega arith) ∙ put-agree t₁ o bu in₂ p q;
    }
  where
    upper : (j : ℕ) → Outside o pair_size j → Outside (o + 16) 16 j
    upper j (inl q) = inl (omega arith)
    upper j (inr q) = inr (omega arith)

    lower : (j : ℕ) → Outside o pair_size j → Outside o 16 j
    lower j (inl q) = inl q
    lower j (inr q) = inr (omega arith)

lane_mask-le : (a : ℕ) (i : Index) → lane_mask a i ≤ a + 16
lane_mask-le a i₀ = omega arith
lane_mask-le a i₁ = omega arith
lane_mask-le a i₂ = omega arith

-- ---- one tape

module _ {a o : ℕ} (low : a + pair_size ≤ o) where
  met-blocks : (P : Probe a o) (M : Reader) → Reads M (o + pair_size) → Blocks (met P M)
  unfolding met
  met-blocks P M h = add-blocks (P.before-blocks M (λ p k. h p (omega arith))) (masks_at-blocks M o h)

  keyed-blocks : (P : Probe a o) (M : Reader) → Reads M (o + pair_size) → Blocks (keyed P M)
  unfolding keyed
  keyed-blocks P M h = add-blocks P.given-blocks (masks_at-blocks M a (λ p k. h p (omega arith)))

  -- equal lanes, part by part
  show-parts : (turn : List ℕ → List ℕ) (P : Probe a o) (i : Index) (M N : Reader) → Reads M (o + pair_size) → Reads N (o + pair_size)
      → shows P turn M i ≡ shows P turn N i
      → (met P M (next i) ≡ met P N (next i)) × (met P M (next (next i)) ≡ met P N (next (next i)))
      × (turn (keyed P M i) ≡ turn (keyed P N i))
  unfolding shows
  show-parts turn P i M N h k e =
      let m = met-blocks P M h in
      let n = met-blocks P N k in
      let ps = append-parts (met P M (next i)) _ (met P N (next i)) _ ((m (next i)).size ∙ sym (n (next i)).size) e in
      let j : Index = next (next i) in
      let qs = append-parts (met P M j) _ (met P N j) _ ((m j).size ∙ sym (n j).size) ps.1 in
      (ps.0, qs.0, qs.1)

  -- equal key shares: equal key mask bytes. For lane 2 it is c, with d the same in both
  key-masks : (P : Probe a o) (t u : List ℕ) → length t ≡ length u → Reads (at t) (o + pair_size) → Reads (at u) (o + pair_size)
      → o + pair_size ≤ length t → (i : Index) → Alike (lane_mask a i) o t u → keyed P (at t) i ≡ keyed P (at u) i
      → at t (lane_mask a i) ≡ at u (lane_mask a i)
  unfolding keyed
  key-masks P t u e rt ru fit i₀ f w = ⊕-injective (P.given-blocks i₀) (rt a (omega arith)) (ru a (omega arith)) w
  key-masks P t u e rt ru fit i₁ f w = ⊕-injective (P.given-blocks i₁) (rt (a + 16) (omega arith)) (ru (a + 16) (omega arith)) w
  key-masks P t u e rt ru fit i₂ f w =
      let d : at t (a + 16) ≡ at u (a + 16) = at-ext t u (a + 16) (omega arith) e (λ j v z. f j (inr (omega arith)) (inl (omega arith))) in
      let tc = rt a (omega arith) in
      let td = rt (a + 16) (omega arith) in
      let uc = ru a (omega arith) in
      ⊕-injective-right td tc uc
      (⊕-injective (P.given-blocks i₂) (⊕-block tc td) (⊕-block uc td) (w ∙ ap (λ (l : List ℕ). P.given i₂ ⊕ (at u a ⊕ l)) (sym d)))

  -- two such tapes with which one probe shows the same lane are equal
  pub at_most_one : (turn : List ℕ → List ℕ) → Turn turn → (P : Probe a o) (t u : List ℕ) → length t ≡ length u → Bytes t → Bytes u
      → o + pair_size ≤ length t → (i : Index) → Alike (lane_mask a i) o t u → shows P turn (at t) i ≡ shows P turn (at u) i → t ≡ u
  unfolding met
  at_most_one turn T P t u e bt bu fit i f q =
      let rt : Reads (at t) (o + pair_size) = at_reads t (o + pair_size) bt fit in
      let ru : Reads (at u) (o + pair_size) = at_reads u (o + pair_size) bu (omega arith) in
      let ps = show-parts turn P i (at t) (at u) rt ru q in
      let ke = T.turn-injective _ _ (keyed-blocks P (at t) rt i) (keyed-blocks P (at u) ru i) ps.2 in
      let ka : at t (lane_mask a i) ≡ at u (lane_mask a i) = key-masks P t u e rt ru fit i f ke in
      let st = P.before-causal (at t) (at u) (alike-agree (lane_mask a i) o t u e (omega arith) f ka) in
      let bs : Blocks (P.before (at t)) = P.before-blocks (at t) (λ p k. rt p (omega arith)) in
      let mt : Blocks (masks_at (at t) o) = masks_at-blocks (at t) o rt in
      let mu : Blocks (masks_at (at u) o) = masks_at-blocks (at u) o ru in
      let mask : (j : Index) → met P (at t) j ≡ met P (at u) j → masks_at (at t) o j ≡ masks_at (at u) o j =
      λ j z. ⊕-injective (bs j) (mt j) (mu j) (z ∙ ap (λ (s : Shares). s j ⊕ masks_at (at u) o j) (sym st)) in
      let uv = spread-injective i (mt i₀) (mt i₁) (mu i₀) (mu i₁) (mask (next i) ps.0) (mask (next (next i)) ps.1) in
      alike-equal (lane_mask a i) o t u e f ka uv.0 uv.1

  -- the second's masked key share, on a tape that has the shifted mask
  key-same : (P Q : Probe a o) (t w : List ℕ) → Reads (at t) (o + pair_size) → o + pair_size ≤ length t → length w ≡ length t
      → (i : Index) → Alike (lane_mask a i) o w t → at w (lane_mask a i) ≡ at t (lane_mask a i) ⊕ (P.given i ⊕ Q.given i)
      → keyed Q (at w) i ≡ keyed P (at t) i
  unfolding keyed
  key-same P Q t w rt fit l i₀ f e =
      ap (λ (l : List ℕ). Q.given i₀ ⊕ l) e ∙ shift (P.given-blocks i₀) (rt a (omega arith)) (Q.given-blocks i₀)
  key-same P Q t w rt fit l i₁ f e =
      ap (λ (l : List ℕ). Q.given i₁ ⊕ l) e ∙ shift (P.given-blocks i₁) (rt (a + 16) (omega arith)) (Q.given-blocks i₁)
  key-same P Q t w rt fit l i₂ f e =
      let d : at w (a + 16) ≡ at t (a + 16) = at-ext w t (a + 16) (omega arith) l (λ j v z. f j (inr (omega arith)) (inl (omega arith))) in
      ap₂ (λ (m n : List ℕ). Q.given i₂ ⊕ (m ⊕ n)) e d ∙ sym (⊕-assoc (Q.given i₂) _ (at t (a + 16)))
      ∙ ap (λ (m : List ℕ). m ⊕ at t (a + 16)) (shift (P.given-blocks i₂) (rt a (omega arith)) (Q.given-blocks i₂))
      ∙ ⊕-assoc (P.given i₂) (at t a) (at t (a + 16))

  -- a tape w with that mask κ, and with masks u, v that make of the second's state on it what the first showed, shows the same
  seen : (turn : List ℕ → List ℕ) (P Q : Probe a o) (t : List ℕ) → Reads (at t) (o + pair_size) → o + pair_size ≤ length t → (i : Index)
      {κ w : List ℕ} → κ ≡ at t (lane_mask a i) ⊕ (P.given i ⊕ Q.given i) → Reads (at (put (lane_mask a i) κ t)) o
      → let D = add (Q.before (at (put (lane_mask a i) κ t))) (met P (at t)) in (m : Masks i (D (next i)) (D (next (next i))))
      → Written t (lane_mask a i) o κ m.u m.v w
      → Shows (lane_mask a i) o t (shows P turn (at t) i) every (λ w. shows Q turn (at w) i) w
  unfolding shows met
  seen turn P Q t rt fit i {κ} {w} e r m W =
      let N : Reader = at (put (lane_mask a i) κ t) in
      let S : Shares = Q.before N in
      let A : Shares = met P (at t) in
      let st : met Q (at w) ≡ add S (spread m.u m.v) =
      ap₂ add (Q.before-causal (at w) N W.agree) (ap₂ spread W.first W.second) in
      let meets : (j : Index) → spread m.u m.v j ≡ add S A j → met Q (at w) j ≡ A j =
      λ j d. ap (λ (s : Shares). s j) st ∙ ap (λ (l : List ℕ). S j ⊕ l) d ∙ ⊕-cancel (Q.before-blocks N r j) (met-blocks P (at t) rt j) in
      let key = key-same P Q t w rt fit W.long i W.alike (W.there ∙ e) in
      record {
        as_long = W.long;
        all-bytes = W.all-bytes;
        elsewhere = W.alike;
        accepted = tt;
        same = ap₂ ◌++◌ (meets (next i) m.first) (ap₂ ◌++◌ (meets (next (next i)) m.second) (ap turn key));
      }

  -- there is one: the key mask first, then the second's state on that tape, then u and v
  found : (turn : List ℕ → List ℕ) (P Q : Probe a o) (t : List ℕ) → Bytes t → o + pair_size ≤ length t → (i : Index)
      → (w : List ℕ) × Shows (lane_mask a i) o t (shows P turn (at t) i) every (λ w. shows Q turn (at w) i) w
  found turn P Q t bt fit i =
      let b : ℕ = lane_mask a i in
      let b-low : b ≤ a + 16 = lane_mask-le a i in
      let rt : Reads (at t) (o + pair_size) = at_reads t (o + pair_size) bt fit in
      let κ : List ℕ = at t b ⊕ (P.given i ⊕ Q.given i) in
      let bk : Block κ = ⊕-block (rt b (omega arith)) (⊕-block (P.given-blocks i) (Q.given-blocks i)) in
      let l₁ : length (put b κ t) ≡ length t = put-length b κ t (omega (arith, bk.size)) in
      let r₁ : Reads (at (put b κ t)) o = at_reads (put b κ t) o (put-bytes t b bk (omega arith) bt) (omega arith) in
      let bd = add-blocks (Q.before-blocks (at (put b κ t)) r₁) (met-blocks P (at t) rt) in
      let m = masks-for i (bd (next i)) (bd (next (next i))) in
      let w : List ℕ = put (o + 16) m.v (put o m.u (put b κ t)) in
      let W = written t b o {u = m.u} {v = m.v} bt bk m.u-block m.v-block (omega arith) fit in
      (w, seen turn P Q t rt fit i {w = w} refl r₁ m W)

  -- exactly one tape shows with Q what was seen with P
  pub one-tape-at : (turn : List ℕ → List ℕ) → Turn turn → (P Q : Probe a o) (t : List ℕ) → Bytes t → o + pair_size ≤ length t → (i : Index)
      → ExactlyOne (Shows (lane_mask a i) o t (shows P turn (at t) i) every (λ w. shows Q turn (at w) i))
  one-tape-at turn T P Q t bt fit i =
      let f = found turn P Q t bt fit i in
      record {
        one = f.0;
        holds = f.1;
        only_one = λ w S.
            at_most_one turn T Q w f.0 (S.as_long ∙ sym f.1.as_long) S.all-bytes f.1.all-bytes (omega (arith, S.as_long)) i
            (λ j u v. S.elsewhere j u v ∙ sym (f.1.elsewhere j u v)) (S.same ∙ sym f.1.same);
      }
