-- Numbers that have one spelling have one text.
use Rattle.std.proofs.Common.{◌≡◌, ℕ, suc, ◌/◌, ◌%◌, ◌^◌, Bool, true, false, List, [], ◌∷◌, ◌++◌, append_assoc, refl, sym, ap, ◌∙◌, arith, codes, decimal}
use Rattle.world_store.specs.Words.{Is64, b64, flag, one_whole, length64, same_prefixes, one64, one_flag, RegState, CaptureState, SyncMark, Head, head_spelling, IsHead, capture_spelling, IsCapture, registration_state_spelling, IsRegistrationState, mark_spelling, IsMark, head_is, tail_is}
use Rattle.repl_model.specs.Words.{hex_digit, hex_digits, SetId}
use Rattle.reply_text.specs.Lines.{whole_line, position_text, set_text}
use Rattle.reply_text.specs.declared.reply.Reply.TheVariants as replies
use Rattle.reply_text.specs.Replies.{reply_line}
use Rattle.reply_text.specs.Status.{registration_line, source_set_line}

-- ---- a number of eight bytes

-- two digits more are those of the lowest byte
byte_more : (c n m : ℕ) → n % 256 ≡ m % 256 → hex_digits c (n / 256) ≡ hex_digits c (m / 256) → hex_digits (suc (suc c)) n ≡ hex_digits (suc (suc c)) m
unfolding hex_digits
byte_more c n m low high =
    let first : hex_digits c (n / 16 / 16) ≡ hex_digits c (m / 16 / 16) = ap (hex_digits c) (quarter n) ∙ high ∙ ap (hex_digits c) (sym (quarter m)) in
    let second : n / 16 % 16 ≡ m / 16 % 16 = omega (arith, low) in
    let third : n % 16 ≡ m % 16 = omega (arith, low) in
    λ i. (first i ++ hex_digit (second i) ∷ []) ++ hex_digit (third i) ∷ []
  where
    quarter : (k : ℕ) → k / 16 / 16 ≡ k / 256
    quarter k = omega arith

-- no digits
none : (j k : ℕ) → hex_digits 0 j ≡ hex_digits 0 k
unfolding hex_digits
none j k = refl

-- two divisions by bytes are one
bytes_over : (n : ℕ) → (n / 256 / 256 ≡ n / 256 ^ 2) × (n / 256 ^ 2 / 256 ≡ n / 256 ^ 3) × (n / 256 ^ 3 / 256 ≡ n / 256 ^ 4) × (n / 256 ^ 4 / 256 ≡ n / 256 ^ 5) × (n / 256 ^ 5 / 256 ≡ n / 256 ^ 6) × (n / 256 ^ 6 / 256 ≡ n / 256 ^ 7)
bytes_over n = (omega arith, omega arith, omega arith, omega arith, omega arith, omega arith)

-- the number that eight bytes spell
abbrev pub low64 : ℕ → ℕ
low64 n = n % 2 ^ 64

pub low_is : (n : ℕ) → Is64 (low64 n)
low_is n = omega arith

-- it has the spelling
pub low_spelled : (n : ℕ) → b64 (low64 n) ≡ b64 n
unfolding b64
low_spelled n =
    let a : low64 n / 256 ^ 7 % 256 ≡ n / 256 ^ 7 % 256 = omega arith in
    let b : low64 n / 256 ^ 6 % 256 ≡ n / 256 ^ 6 % 256 = omega arith in
    let c : low64 n / 256 ^ 5 % 256 ≡ n / 256 ^ 5 % 256 = omega arith in
    let d : low64 n / 256 ^ 4 % 256 ≡ n / 256 ^ 4 % 256 = omega arith in
    let e : low64 n / 256 ^ 3 % 256 ≡ n / 256 ^ 3 % 256 = omega arith in
    let f : low64 n / 256 ^ 2 % 256 ≡ n / 256 ^ 2 % 256 = omega arith in
    let g : low64 n / 256 % 256 ≡ n / 256 % 256 = omega arith in
    let h : low64 n % 256 ≡ n % 256 = omega arith in
    λ i. a i ∷ b i ∷ c i ∷ d i ∷ e i ∷ f i ∷ g i ∷ h i ∷ []

-- numbers of one spelling have the same digits
pub digits_same : (n m : ℕ) → b64 n ≡ b64 m → hex_digits 16 n ≡ hex_digits 16 m
unfolding b64
digits_same n m e =
    let e6 = tail_is (n / 256 ^ 7 % 256) (m / 256 ^ 7 % 256) (seven n) (seven m) e in
    let e5 = tail_is (n / 256 ^ 6 % 256) (m / 256 ^ 6 % 256) (six n) (six m) e6 in
    let e4 = tail_is (n / 256 ^ 5 % 256) (m / 256 ^ 5 % 256) (five n) (five m) e5 in
    let e3 = tail_is (n / 256 ^ 4 % 256) (m / 256 ^ 4 % 256) (four n) (four m) e4 in
    let e2 = tail_is (n / 256 ^ 3 % 256) (m / 256 ^ 3 % 256) (three n) (three m) e3 in
    let e1 = tail_is (n / 256 ^ 2 % 256) (m / 256 ^ 2 % 256) (two n) (two m) e2 in
    let e0 = tail_is (n / 256 % 256) (m / 256 % 256) (n % 256 ∷ []) (m % 256 ∷ []) e1 in
    let b7 = head_is (n / 256 ^ 7 % 256) (m / 256 ^ 7 % 256) (seven n) (seven m) e in
    let b6 = head_is (n / 256 ^ 6 % 256) (m / 256 ^ 6 % 256) (six n) (six m) e6 in
    let b5 = head_is (n / 256 ^ 5 % 256) (m / 256 ^ 5 % 256) (five n) (five m) e5 in
    let b4 = head_is (n / 256 ^ 4 % 256) (m / 256 ^ 4 % 256) (four n) (four m) e4 in
    let b3 = head_is (n / 256 ^ 3 % 256) (m / 256 ^ 3 % 256) (three n) (three m) e3 in
    let b2 = head_is (n / 256 ^ 2 % 256) (m / 256 ^ 2 % 256) (two n) (two m) e2 in
    let b1 = head_is (n / 256 % 256) (m / 256 % 256) (n % 256 ∷ []) (m % 256 ∷ []) e1 in
    let b0 = head_is (n % 256) (m % 256) [] [] e0 in
    let over = bytes_over n in
    let under = bytes_over m in
    byte_more 14 n m b0 (byte_more 12 (n / 256) (m / 256) b1 (on 12 (over.0) (under.0)
    (byte_more 10 (n / 256 ^ 2) (m / 256 ^ 2) b2 (on 10 over.1 under.1
    (byte_more 8 (n / 256 ^ 3) (m / 256 ^ 3) b3 (on 8 over.2 under.2
    (byte_more 6 (n / 256 ^ 4) (m / 256 ^ 4) b4 (on 6 over.3 under.3
    (byte_more 4 (n / 256 ^ 5) (m / 256 ^ 5) b5 (on 4 over.4 under.4
    (byte_more 2 (n / 256 ^ 6) (m / 256 ^ 6) b6 (on 2 over.5 under.5
    (byte_more 0 (n / 256 ^ 7) (m / 256 ^ 7) b7 (none (n / 256 ^ 7 / 256) (m / 256 ^ 7 / 256)))))))))))))))
  where
    two : ℕ → List ℕ
    two k = k / 256 % 256 ∷ k % 256 ∷ []

    three : ℕ → List ℕ
    three k = k / 256 ^ 2 % 256 ∷ two k

    four : ℕ → List ℕ
    four k = k / 256 ^ 3 % 256 ∷ three k

    five : ℕ → List ℕ
    five k = k / 256 ^ 4 % 256 ∷ four k

    six : ℕ → List ℕ
    six k = k / 256 ^ 5 % 256 ∷ five k

    seven : ℕ → List ℕ
    seven k = k / 256 ^ 6 % 256 ∷ six k

    on : (c : ℕ) {a b d e : ℕ} → a ≡ b → d ≡ e → hex_digits c b ≡ hex_digits c e → hex_digits c a ≡ hex_digits c d
    on c over under h = ap (hex_digits c) over ∙ h ∙ ap (hex_digits c) (sym under)

-- so they have the same text as positions
pub position_same : (n m : ℕ) → b64 n ≡ b64 m → position_text n ≡ position_text m
position_same n m e = ap (λ (l : List ℕ). l ++ hex_digits 4 0) (digits_same n m e)

-- ---- records of numbers

-- two numbers one after another
two_parts : (a b s t : ℕ) → b64 a ++ b64 b ≡ b64 s ++ b64 t → (b64 a ≡ b64 s) × (b64 b ≡ b64 t)
two_parts a b s t e = same_prefixes (b64 a) (b64 s) (b64 b) (b64 t) (length64 a ∙ sym (length64 s)) e

-- three
three_parts : (a b c s t u : ℕ) → b64 a ++ b64 b ++ b64 c ≡ b64 s ++ b64 t ++ b64 u → (b64 a ≡ b64 s) × (b64 b ≡ b64 t) × (b64 c ≡ b64 u)
three_parts a b c s t u e =
    let first = same_prefixes (b64 a) (b64 s) (b64 b ++ b64 c) (b64 t ++ b64 u) (length64 a ∙ sym (length64 s)) (sym (append_assoc (b64 a) (b64 b) (b64 c)) ∙ e ∙ append_assoc (b64 s) (b64 t) (b64 u)) in
    let rest = two_parts b c t u first.1 in
    (first.0, rest.0, rest.1)

-- a flag and two
flag_parts : (x y : Bool) (b c t u : ℕ) → flag x ++ b64 b ++ b64 c ≡ flag y ++ b64 t ++ b64 u → (x ≡ y) × (b64 b ≡ b64 t) × (b64 c ≡ b64 u)
flag_parts x y b c t u e =
    let first = one_flag x y (b64 b ++ b64 c) (b64 t ++ b64 u) tt tt (sym (append_assoc (flag x) (b64 b) (b64 c)) ∙ e ∙ append_assoc (flag y) (b64 t) (b64 u)) in
    let rest = two_parts b c t u first.1 in
    (first.0, rest.0, rest.1)

-- states of one spelling have one line
pub state_line_same : (table : List ℕ) (x y : RegState) → registration_state_spelling x ≡ registration_state_spelling y → registration_line table x ≡ registration_line table y
state_line_same table x y e =
    let parts = flag_parts x.active y.active x.start x.floor y.start y.floor e in
    let start = position_same x.start y.start parts.1 in
    let floor = position_same x.floor y.floor parts.2 in
    by_flag x.active y.active parts.0 start floor
  where
    by_flag : (a b : Bool) → a ≡ b → position_text x.start ≡ position_text y.start → position_text x.floor ≡ position_text y.floor → registration_line table (record { active = a; start = x.start; floor = x.floor }) ≡ registration_line table (record { active = b; start = y.start; floor = y.floor })
    by_flag true true same start floor = λ i. whole_line (codes "reg" ∷ table ∷ codes "active" ∷ start i ∷ floor i ∷ [])
    by_flag false false same start floor = λ i. whole_line (codes "reg" ∷ table ∷ codes "inactive" ∷ floor i ∷ [])
    by_flag true false same start floor = absurd cc
    by_flag false true same start floor = absurd cc

-- so have marks
pub mark_line_same : (id : SetId) (x y : SyncMark) → mark_spelling x ≡ mark_spelling y → source_set_line id x ≡ source_set_line id y
mark_line_same id x y e =
    let parts = two_parts x.mark x.signal y.mark y.signal e in
    let mark = position_same x.mark y.mark parts.0 in
    let signal = position_same x.signal y.signal parts.1 in
    λ i. whole_line (codes "set" ∷ set_text id ∷ codes "mark" ∷ mark i ∷ codes "signal" ∷ signal i ∷ [])

-- and ends of logs with states of capture, if the times have eight bytes
pub server_line_same : (x y : Head) (a b : CaptureState) → Is64 x.time → Is64 y.time → head_spelling x ≡ head_spelling y → capture_spelling a ≡ capture_spelling b → reply_line (replies.Server (record { last = x.last; commit = x.commit; time = x.time; captured = a.captured; restart = a.restart; floor = a.floor })) ≡ reply_line (replies.Server (record { last = y.last; commit = y.commit; time = y.time; captured = b.captured; restart = b.restart; floor = b.floor }))
server_line_same x y a b small_x small_y e f =
    let ends = three_parts x.last x.commit x.time y.last y.commit y.time e in
    let states = three_parts a.captured a.restart a.floor b.captured b.restart b.floor f in
    let last = position_same x.last y.last ends.0 in
    let commit = position_same x.commit y.commit ends.1 in
    let time = one_whole Is64 b64 one64 x.time y.time small_x small_y ends.2 in
    let captured = position_same a.captured b.captured states.0 in
    let restart = position_same a.restart b.restart states.1 in
    let floor = position_same a.floor b.floor states.2 in
    λ i. whole_line (codes "ok last" ∷ last i ∷ codes "commit" ∷ commit i ∷ codes "time" ∷ decimal (time i) ∷ codes "captured" ∷ captured i ∷ codes "restart" ∷ restart i ∷ codes "floor" ∷ floor i ∷ [])

-- ---- what numbers of any size spell

-- a state has the spelling of one whose numbers have eight bytes
pub state_low : (x : RegState) → (y : RegState) × IsRegistrationState y × (registration_state_spelling x ≡ registration_state_spelling y)
state_low x = (record { active = x.active; start = low64 x.start; floor = low64 x.floor }, (low_is x.start, low_is x.floor), sym (λ i. flag x.active ++ low_spelled x.start i ++ low_spelled x.floor i))

-- so has a mark
pub mark_low : (x : SyncMark) → (y : SyncMark) × IsMark y × (mark_spelling x ≡ mark_spelling y)
mark_low x = (record { mark = low64 x.mark; signal = low64 x.signal }, (low_is x.mark, low_is x.signal), sym (λ i. low_spelled x.mark i ++ low_spelled x.signal i))

-- an end of a log
pub head_low : (x : Head) → (y : Head) × IsHead y × (head_spelling x ≡ head_spelling y)
head_low x = (record { last = low64 x.last; commit = low64 x.commit; time = low64 x.time }, (low_is x.last, low_is x.commit, low_is x.time), sym (λ i. low_spelled x.last i ++ low_spelled x.commit i ++ low_spelled x.time i))

-- and a state of capture
pub capture_low : (x : CaptureState) → (y : CaptureState) × IsCapture y × (capture_spelling x ≡ capture_spelling y)
capture_low x = (record { captured = low64 x.captured; restart = low64 x.restart; floor = low64 x.floor }, (low_is x.captured, low_is x.restart, low_is x.floor), sym (λ i. low_spelled x.captured i ++ low_spelled x.restart i ++ low_spelled x.floor i))
