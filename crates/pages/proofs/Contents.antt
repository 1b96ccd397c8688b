-- What the listed pages hold, and what one store leaves.
use Rattle.std.proofs.Common.{◌≡◌, ℕ, ◌+◌, ◌*◌, ◌/◌, ◌%◌, ◌<◌, ◌≤◌, ◌≢◌, List, [], length, get_or, take, set, sym, ap, ◌∙◌, ⊎_elim, arith}
use Rattle.std.proofs.lemmas.List.{ext_get_or, get_or-set_same, get_or-set_other, length-set, get_or-take, get_or-drop}
use Rattle.std.proofs.lemmas.List.FromFn.{length-map-range_with_len, get_or-map-range_with_len}
use Rattle.std.proofs.lemmas.Bool.{cases_eq}
use Rattle.media.specs.Runs.{run, overwrite}
use Rattle.media.proofs.RunLaws.{overwrite_more, length_run}
use Rattle.pages.specs.Paging.{Below, Apart, byte_at, stored, content}

pub length_content : (pages : List (List ℕ)) (ps : List ℕ) (n : ℕ) → length (content pages ps n) ≡ 512 * n
length_content pages ps n = length-map-range_with_len (byte_at pages ps) 0 (512 * n)

pub get_or_content : (pages : List (List ℕ)) (ps : List ℕ) (n a : ℕ) → a < 512 * n → get_or (content pages ps n) a 0 ≡ byte_at pages ps a
get_or_content pages ps n a h = get_or-map-range_with_len (byte_at pages ps) 0 (512 * n) a a 0 h (omega arith)

-- what a store at the place of byte a leaves there
pub byte_same : (pages : List (List ℕ)) (ps : List ℕ) (a v : ℕ) → get_or ps (a / 512) 0 < length pages → length (get_or pages (get_or ps (a / 512) 0) []) ≡ 512
    → byte_at (stored pages (get_or ps (a / 512) 0) (a % 512) v) ps a ≡ v
byte_same pages ps a v h m =
    let p = get_or ps (a / 512) 0 in
    rw (get_or-set_same pages p (set (get_or pages p []) (a % 512) v) [] h) (get_or-set_same (get_or pages p []) (a % 512) v 0 (omega arith))

-- and at the place of another byte
pub byte_other : (pages : List (List ℕ)) (ps : List ℕ) (n a k v : ℕ) → Below ps n → Apart ps n → length pages ≡ 128 → a < 512 * n → k < 512 * n → k ≢ a
    → byte_at (stored pages (get_or ps (a / 512) 0) (a % 512) v) ps k ≡ byte_at pages ps k
byte_other pages ps n a k v below apart m h l ne =
    let p = get_or ps (a / 512) 0 in
    ⊎_elim {C = byte_at (stored pages p (a % 512) v) ps k ≡ byte_at pages ps k}
    (λ (e : get_or ps (k / 512) 0 ≡ p).
    let one : k / 512 ≡ a / 512 = apart (k / 512) (a / 512) (omega arith, omega arith, e) in
    let other : k % 512 ≢ a % 512 = λ q. ne (omega arith) in
    let b = below (a / 512) (omega arith) in
    rw (e, get_or-set_same pages p (set (get_or pages p []) (a % 512) v) [] (omega arith)) (get_or-set_other (get_or pages p []) (a % 512) (k % 512) v 0 other))
    (λ (d : get_or ps (k / 512) 0 ≢ p). ap (λ page. get_or page (k % 512) 0) (get_or-set_other pages p (get_or ps (k / 512) 0) (set (get_or pages p []) (a % 512) v) [] d))
    (cases_eq (get_or ps (k / 512) 0) p)

-- a store at the place of byte a changes that byte and no other
pub content_stored : (pages : List (List ℕ)) (ps : List ℕ) (n a v : ℕ) → Below ps n → Apart ps n → length pages ≡ 128 → length (get_or pages (get_or ps (a / 512) 0) []) ≡ 512 → a < 512 * n
    → content (stored pages (get_or ps (a / 512) 0) (a % 512) v) ps n ≡ set (content pages ps n) a v
content_stored pages ps n a v below apart m w h =
    let p = get_or ps (a / 512) 0 in
    let after = stored pages p (a % 512) v in
    ext_get_or 0 _ _ (length_content after ps n ∙ sym (length-set (content pages ps n) a v ∙ length_content pages ps n))
    (λ k l. let l' : k < 512 * n = omega (arith, length_content after ps n) in
    get_or_content after ps n k l' ∙
    ⊎_elim {C = byte_at after ps k ≡ get_or (set (content pages ps n) a v) k 0}
    (λ (e : k ≡ a). rw e (byte_same pages ps a v (omega (arith, below (a / 512) (omega arith))) w ∙ sym (get_or-set_same (content pages ps n) a v 0 (omega (arith, length_content pages ps n)))))
    (λ (ne : k ≢ a). byte_other pages ps n a k v below apart m h l' ne ∙ sym (get_or-set_other (content pages ps n) a k v 0 ne ∙ get_or_content pages ps n k l'))
    (cases_eq k a))

-- the turn of a loop that stores byte after byte
pub store_more : (pages : List (List ℕ)) (was ps ws : List ℕ) (n at i : ℕ) → Below ps n → Apart ps n → length pages ≡ 128 → length (get_or pages (get_or ps ((at + i) / 512) 0) []) ≡ 512 → length was ≡ 512 * n → at + length ws ≤ 512 * n → i < length ws
    → content pages ps n ≡ overwrite was at (take i ws)
    → content (stored pages (get_or ps ((at + i) / 512) 0) ((at + i) % 512) (get_or ws i 0)) ps n ≡ overwrite was at (take (i + 1) ws)
store_more pages was ps ws n at i below apart m g w h l e =
    content_stored pages ps n (at + i) (get_or ws i 0) below apart m g (omega arith) ∙ rw e (overwrite_more was ws at i 0 (omega arith) l)

-- a buffer that agrees with a list at each place from `at` on is that run of it
pub run_from_get_or : (is bs : List ℕ) (at n : ℕ) → length is ≡ n → at + n ≤ length bs → ((k : ℕ) → k < n → get_or is k 0 ≡ get_or bs (at + k) 0) → is ≡ run bs at n
run_from_get_or is bs at n e h f =
    ext_get_or 0 _ _ (e ∙ sym (length_run bs at n h)) (λ k l. let l' : k < n = omega arith in f k l' ∙ sym (get_or-take n _ k 0 l' ∙ get_or-drop at bs k 0))

-- a buffer that has byte at + k at each place k is that run of what the pages hold
pub run_from_bytes : (pages : List (List ℕ)) (ps is : List ℕ) (n at m : ℕ) → length is ≡ m → at + m ≤ 512 * n → ((k : ℕ) → k < m → get_or is k 0 ≡ byte_at pages ps (at + k)) → is ≡ run (content pages ps n) at m
run_from_bytes pages ps is n at m e h f =
    let bs = content pages ps n in
    ext_get_or 0 _ _ (e ∙ sym (length_run bs at m (omega (arith, length_content pages ps n))))
    (λ k l. let l' : k < m = omega arith in f k l' ∙ sym (get_or-take m _ k 0 l' ∙ get_or-drop at bs k 0 ∙ get_or_content pages ps n (at + k) (omega arith)))
