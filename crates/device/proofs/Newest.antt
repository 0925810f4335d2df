-- What a list of records means, and how it grows and shrinks.
use Rattle.std.proofs.Common.{◌≡◌, ℕ, zero, suc, ◌+◌, ◌≤◌, Bool, true, false, cond, not, ◌&&◌, leb, List, [], ◌∷◌, ◌++◌, map, length, get_or, take, is_some, Some, None, filter, Option, sym, refl, ap, ◌∙◌, arith}
use mathlib.Core.Path.{fun_ext}
use Rattle.std.specs.List.{find}
use Rattle.std.specs.Prelude.{reverse, option_map}
use Rattle.std.specs.Option.{option_or}
use Rattle.std.proofs.lemmas.List.Folds.{find-append}
use Rattle.std.proofs.lemmas.Bool.{leb-true, le-leb, and_parts, and_from, true≢false}
use Rattle.std.proofs.lemmas.List.{take-take, take-map, reverse-append}
use Rattle.std.proofs.Math.Seq.{take-append-add}
use Rattle.std.proofs.lemmas.Bool.Decides.{nat_tests}
use Rattle.device.specs.declared.record.Entry.{Entry}
use Rattle.device.specs.declared.record.Change.{Change}
use Rattle.device.specs.declared.record.Record.{Record}
use Rattle.device.specs.Changes.{Content, nothing, inside, same_object, put, named, distinct, stamped, appended, newer, forgotten, newest}
use Rattle.device.specs.Logs.{AtMost, NumbersAtMost, Inside, InsideRecord}
use Rattle.device.specs.Records.{in_order, outlasts}

abbrev pub zero_record : Record
zero_record = record { id = record { page = 0; object = 0 }; entry = record { number = 0; value = 0 } }

-- Growing

pub newest-++ : (f : Content) (xs ys : List Record) → newest f (xs ++ ys) ≡ newest (newest f xs) ys
newest-++ f [] ys = refl
newest-++ f (x ∷ xs) ys = newest-++ (put f x) xs ys

-- the records of a commit behind those that were there
pub newest-appended : (rs : List Record) (n : ℕ) (xs : List Change) → newest nothing (rs ++ map (stamped n) xs) ≡ appended (newest nothing rs) n xs
newest-appended rs n xs = newest-++ nothing rs (map (stamped n) xs)

-- A search from the end

-- an object's entry: that of the last record of it, if there is one, and else what stood there before
abbrev found_over : Option Entry → Option Record → Option Entry
found_over x None = x
found_over x (Some r) = Some r.entry

found_before : (x : Option Entry) (a b : Option Record) → found_over (found_over x b) a ≡ found_over x (option_or a b)
found_before x None b = refl
found_before x (Some r) b = refl

found_one : (b : Bool) (r : Record) (x : Option Entry) → cond b (Some r.entry) x ≡ found_over x (cond b (Some r) None)
found_one true r x = refl
found_one false r x = refl

newest_from : (f : Content) (rs : List Record) (p o : ℕ) → newest f rs p o ≡ found_over (f p o) (find (λ r. same_object r.id.page r.id.object p o) (reverse rs))
newest_from f [] p o = refl
newest_from f (r ∷ rs) p o =
    let test : Record → Bool = λ r. same_object r.id.page r.id.object p o in
    newest_from (put f r) rs p o
    ∙ ap (λ x. found_over x (find test (reverse rs))) (found_one (test r) r (f p o))
    ∙ found_before (f p o) (find test (reverse rs)) (find test (r ∷ []))
    ∙ ap (found_over (f p o)) (sym (find-append test (reverse rs) (r ∷ [])))
    ∙ ap (λ rs'. found_over (f p o) (find test rs')) (sym (reverse-append (r ∷ []) rs))

pub newest_found : (rs : List Record) (p o : ℕ) → newest nothing rs p o ≡ option_map (λ (r : Record). r.entry) (find (λ r. same_object r.id.page r.id.object p o) (reverse rs))
newest_found rs p o = newest_from nothing rs p o ∙ mapped (find (λ r. same_object r.id.page r.id.object p o) (reverse rs))
  where
    mapped : (x : Option Record) → found_over None x ≡ option_map (λ (r : Record). r.entry) x
    mapped None = refl
    mapped (Some r) = refl

-- Order

-- what the order says of its first record, and of the rest
module _ (m n : ℕ) (r : Record) (rs : List Record) (e : in_order m n (r ∷ rs) ≡ true) where
  first_inside : inside r.id.page r.id.object ≡ true
  first_inside = (and_parts (inside r.id.page r.id.object) (leb m r.entry.number) (and_parts (inside r.id.page r.id.object && leb m r.entry.number) (in_order r.entry.number n rs) e).0).0

  first_above : m ≤ r.entry.number
  first_above = leb-true m r.entry.number (and_parts (inside r.id.page r.id.object) (leb m r.entry.number) (and_parts (inside r.id.page r.id.object && leb m r.entry.number) (in_order r.entry.number n rs) e).0).1

  rest_order : in_order r.entry.number n rs ≡ true
  rest_order = (and_parts (inside r.id.page r.id.object && leb m r.entry.number) (in_order r.entry.number n rs) e).1

order_from : (m n : ℕ) (r : Record) (rs : List Record) → inside r.id.page r.id.object ≡ true → m ≤ r.entry.number → in_order r.entry.number n rs ≡ true → in_order m n (r ∷ rs) ≡ true
order_from m n r rs a b c = and_from (inside r.id.page r.id.object && leb m r.entry.number) (in_order r.entry.number n rs) (and_from (inside r.id.page r.id.object) (leb m r.entry.number) a (le-leb m r.entry.number b)) c

order_stamped : (m n : ℕ) (xs : List Change) → m ≤ n → distinct xs ≡ true → in_order m n (map (stamped n) xs) ≡ true
order_stamped m n [] h e = le-leb m n h
order_stamped m n (x ∷ xs) h e =
    let both = and_parts (inside x.id.page x.id.object) (not (named xs x.id.page x.id.object) && distinct xs) e in
    order_from m n (stamped n x) (map (stamped n) xs) both.0 h
    (order_stamped n n xs (omega arith) (and_parts (not (named xs x.id.page x.id.object)) (distinct xs) both.1).1)

-- the records of the next commit keep the order
pub order_appended : (m n : ℕ) (rs : List Record) (xs : List Change) → distinct xs ≡ true → in_order m n rs ≡ true → in_order m (n + 1) (rs ++ map (stamped (n + 1)) xs) ≡ true
order_appended m n [] xs d e = order_stamped m (n + 1) xs (let h : m ≤ n = leb-true m n e in omega arith) d
order_appended m n (r ∷ rs) xs d e =
    order_from m (n + 1) r (rs ++ map (stamped (n + 1)) xs) (first_inside m n r rs e) (first_above m n r rs e) (order_appended r.entry.number n rs xs d (rest_order m n r rs e))

order_lower : (l m n : ℕ) (rs : List Record) → l ≤ m → in_order m n rs ≡ true → in_order l n rs ≡ true
order_lower l m n [] h e = le-leb l n (let k : m ≤ n = leb-true m n e in omega arith)
order_lower l m n (r ∷ rs) h e =
    let k = first_above m n r rs e in
    order_from l n r rs (first_inside m n r rs e) (omega arith) (rest_order m n r rs e)

order_one : (b : Bool) (m n : ℕ) (r : Record) (rs : List Record) → inside r.id.page r.id.object ≡ true → m ≤ r.entry.number → in_order r.entry.number n rs ≡ true → in_order m n (cond b (r ∷ rs) rs) ≡ true
order_one true m n r rs a h e = order_from m n r rs a h e
order_one false m n r rs a h e = order_lower m r.entry.number n rs h e

-- and so does leaving some out
pub order_kept : (q : Record → Bool) (m n : ℕ) (rs : List Record) → in_order m n rs ≡ true → in_order m n (filter q rs) ≡ true
order_kept q m n [] e = e
order_kept q m n (r ∷ rs) e = order_one (q r) m n r (filter q rs) (first_inside m n r rs e) (first_above m n r rs e) (order_kept q r.entry.number n rs (rest_order m n r rs e))

order_ends : (m n : ℕ) (rs : List Record) → in_order m n rs ≡ true → m ≤ n
order_ends m n [] e = leb-true m n e
order_ends m n (r ∷ rs) e = let h = first_above m n r rs e in let k = order_ends r.entry.number n rs (rest_order m n r rs e) in omega arith

order_take : (j m n : ℕ) (rs : List Record) → in_order m n rs ≡ true → in_order m n (take j rs) ≡ true
order_take zero m n rs e = le-leb m n (order_ends m n rs e)
order_take (suc j) m n [] e = e
order_take (suc j) m n (r ∷ rs) e = order_from m n r (take j rs) (first_inside m n r rs e) (first_above m n r rs e) (order_take j r.entry.number n rs (rest_order m n r rs e))

-- the first j records of the next commit keep the order too
pub order_laid : (m n j : ℕ) (rs : List Record) (xs : List Change) → distinct xs ≡ true → in_order m n rs ≡ true → in_order m (n + 1) (rs ++ map (stamped (n + 1)) (take j xs)) ≡ true
order_laid m n j rs xs d e =
    let all = map (stamped (n + 1)) xs in
    ap (in_order m (n + 1)) (sym (take-append-add rs all j ∙ ap (λ ys. rs ++ ys) (take-map (stamped (n + 1)) j xs)))
    ∙ order_take (length rs + j) m (n + 1) (rs ++ all) (order_appended m n rs xs d e)

-- a larger last number keeps the order
pub order_higher : (m n k : ℕ) (rs : List Record) → n ≤ k → in_order m n rs ≡ true → in_order m k rs ≡ true
order_higher m n k [] h e = le-leb m k (let l : m ≤ n = leb-true m n e in omega arith)
order_higher m n k (r ∷ rs) h e = order_from m k r rs (first_inside m n r rs e) (first_above m n r rs e) (order_higher r.entry.number n k rs h (rest_order m n r rs e))

-- what is kept of the first i of u records in order is in order
pub order_front : (q : Record → Bool) (i u n : ℕ) (rs ks : List Record) → i ≤ u → in_order 0 n (take u rs) ≡ true → ks ≡ filter q (take i rs) → in_order 0 n ks ≡ true
order_front q i u n rs ks h e k =
    ap (in_order 0 n) k ∙ order_kept q 0 n (take i rs) (ap (in_order 0 n) (sym (take-take i u rs h)) ∙ order_take i 0 n (take u rs) e)

-- Numbers and objects

at_most_more : (m n : ℕ) (x : Option Entry) → m ≤ n → AtMost m x → AtMost n x
at_most_more m n None h k = tt
at_most_more m n (Some e) h k = omega arith

put_at_most : (b : Bool) (m : ℕ) (e : Entry) (x : Option Entry) → m ≤ e.number → AtMost m x → AtMost e.number (cond b (Some e) x)
put_at_most true m e x h k = omega arith
put_at_most false m e x h k = at_most_more m e.number x h k

pub newest_at_most : (f : Content) (m n : ℕ) (rs : List Record) → NumbersAtMost f m → in_order m n rs ≡ true → NumbersAtMost (newest f rs) n
newest_at_most f m n [] h e p o = at_most_more m n (f p o) (leb-true m n e) (h p o)
newest_at_most f m n (r ∷ rs) h e p o =
    newest_at_most (put f r) r.entry.number n rs
    (λ q s. put_at_most (same_object r.id.page r.id.object q s) m r.entry (f q s) (first_above m n r rs e) (h q s))
    (rest_order m n r rs e) p o

put-inside : (f : Content) (r : Record) → Inside f → inside r.id.page r.id.object ≡ true → Inside (put f r)
put-inside f r h k p o e = let l = h p o e in grind (arith, nat_tests)

pub newest-inside : (f : Content) (m n : ℕ) (rs : List Record) → Inside f → in_order m n rs ≡ true → Inside (newest f rs)
newest-inside f m n [] h e = h
newest-inside f m n (r ∷ rs) h e = newest-inside (put f r) r.entry.number n rs (put-inside f r h (first_inside m n r rs e)) (rest_order m n r rs e)

-- each of them lies inside
pub inside_at : (m n : ℕ) (rs : List Record) (i : ℕ) → in_order m n rs ≡ true → InsideRecord (get_or (map (λ r. Some r) rs) i None)
inside_at m n [] i e = tt
inside_at m n (r ∷ rs) zero e = first_inside m n r rs e
inside_at m n (r ∷ rs) (suc i) e = inside_at r.entry.number n rs i (rest_order m n r rs e)

put_some : (b : Bool) (e : Entry) (x : Option Entry) → is_some x ≡ true → is_some (cond b (Some e) x) ≡ true
put_some true e x h = refl
put_some false e x h = h

newest_some : (f : Content) (rs : List Record) (p o : ℕ) → is_some (f p o) ≡ true → is_some (newest f rs p o) ≡ true
newest_some f [] p o h = h
newest_some f (r ∷ rs) p o h = newest_some (put f r) rs p o (put_some (same_object r.id.page r.id.object p o) r.entry (f p o) h)

put_here : (f : Content) (r : Record) → is_some (put f r r.id.page r.id.object) ≡ true
put_here f r = grind (arith, nat_tests)

-- where no object has an entry there is no record
pub none_left : (rs : List Record) → ((p o : ℕ) → newest nothing rs p o ≡ None) → length rs ≡ 0
none_left [] h = refl
none_left (r ∷ rs) h = absurd (true≢false (sym (newest_some (put nothing r) rs r.id.page r.id.object (put_here nothing r)) ∙ ap is_some (h r.id.page r.id.object)))

-- Forgetting

-- a record that stays is not forgotten
stay_at : (f : Content) (p u : ℕ) (r : Record) → outlasts p u r ≡ true → (q s : ℕ) → put (forgotten f p u) r q s ≡ forgotten (put f r) p u q s
stay_at f p u r e q s = grind (arith, nat_tests)

newer_old : (m u : ℕ) (x : Option Entry) → AtMost m x → m ≤ u → newer u x ≡ None
newer_old m u None h k = refl
newer_old m u (Some e) h k = grind (arith, nat_tests)

-- one that goes leaves nothing, since what stood there before it is older
gone_at : (f : Content) (m p u : ℕ) (r : Record) → m ≤ r.entry.number → NumbersAtMost f m → outlasts p u r ≡ false → (q s : ℕ) → forgotten f p u q s ≡ forgotten (put f r) p u q s
gone_at f m p u r h k e q s = let old = newer_old m u (f q s) (k q s) in grind (arith, nat_tests)

forget_one : (f : Content) (m p u : ℕ) (r : Record) (rs : List Record) (b : Bool) → outlasts p u r ≡ b → m ≤ r.entry.number → NumbersAtMost f m →
    newest (forgotten (put f r) p u) (filter (outlasts p u) rs) ≡ newest (forgotten f p u) (cond b (r ∷ filter (outlasts p u) rs) (filter (outlasts p u) rs))
forget_one f m p u r rs true e h k = ap (λ g. newest g (filter (outlasts p u) rs)) (sym (fun_ext (λ q. fun_ext (λ s. stay_at f p u r e q s))))
forget_one f m p u r rs false e h k = ap (λ g. newest g (filter (outlasts p u) rs)) (sym (fun_ext (λ q. fun_ext (λ s. gone_at f m p u r h k e q s))))

newest-forgotten : (f : Content) (m n p u : ℕ) (rs : List Record) → NumbersAtMost f m → in_order m n rs ≡ true → newest (forgotten f p u) (filter (outlasts p u) rs) ≡ forgotten (newest f rs) p u
newest-forgotten f m n p u [] k e = refl
newest-forgotten f m n p u (r ∷ rs) k e =
    let h = first_above m n r rs e in
    sym (forget_one f m p u r rs (outlasts p u r) refl h k)
    ∙ newest-forgotten (put f r) r.entry.number n p u rs
    (λ q s. put_at_most (same_object r.id.page r.id.object q s) m r.entry (f q s) h (k q s)) (rest_order m n r rs e)

forgotten-nothing : (p u : ℕ) → forgotten nothing p u ≡ nothing
forgotten-nothing p u = fun_ext (λ q. fun_ext (λ s. grind (arith, nat_tests)))

-- the records that are kept mean the content without what was forgotten
pub newest_kept : (n p u : ℕ) (rs : List Record) → in_order 0 n rs ≡ true → newest nothing (filter (outlasts p u) rs) ≡ forgotten (newest nothing rs) p u
newest_kept n p u rs e = ap (λ g. newest g (filter (outlasts p u) rs)) (sym (forgotten-nothing p u)) ∙ newest-forgotten nothing 0 n p u rs (λ q s. tt) e
