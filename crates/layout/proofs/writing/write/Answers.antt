use Rattle.std.proofs.Common.{◌≡◌, ℕ, ◌<◌, ◌++◌, List, length, drop, get_or, Result, Ok, Err, Some, sym, ap, ◌∙◌, arith, length-append}
use Rattle.std.specs.Result.{OkIff, result_ok}
use Rattle.layout.specs.Length.{map_bytes}
use Rattle.layout.specs.Certificate.{head_of, map_of, codes_of, bits}
use Rattle.layout.proofs.Bytes.{parts_over, div_ceil-eight, upto_ones, unhindered}
use Rattle.layout.proofs.writing.write.Goals as goal

-- a number of two bytes is the number that was tried
tried : {E : Type 0} (r : Result ℕ E) (n v : ℕ) → OkIff r (n < 65536) n → Some v ≡ result_ok r → (v ≡ n) × (n < 65536)
tried (Ok y) n v h e = let s : v ≡ y = cc in (s ∙ h.1, h.0)
tried (Err y) n v h e = let s : ◌≡◌ {A = ℕ} 0 1 = cc in absurd (omega arith)

pub returns : goal.returns
returns g c =
    let o = g.F.Field.ops in
    let xs = c.args.coefficients.now in
    let x : ℕ → g.row.F.Denot = λ k. get_or xs k o.zero in
    let many : c.div_ceil-bytes.result ≡ map_bytes (length xs) = c.div_ceil-bytes.ensures ∙ div_ceil-eight (length xs) in
    let two = tried c.try_from.result c.args.equations c.in_ok-equations.equations c.try_from.ensures (sym c.in_ok-equations.was ∙ c.ok.ensures.value) in
    let head = head_of o.size c.args.vertices c.args.degree c.args.equations in
    let map = map_of o (length xs) x in
    let codes = codes_of o (length xs) x in
    let mapped : length map ≡ map_bytes (length xs) = upto_ones (λ b. bits o (length xs) x b 8) (map_bytes (length xs)) in
    let front : c.copy_from_slice.new.self ≡ head =
    c.copy_from_slice.ensures.after ∙ c.head.ensures ∙ ap (λ (k : ℕ). head_of k c.args.vertices c.args.degree c.in_ok-equations.equations) c.order.ensures ∙ ap (head_of o.size c.args.vertices c.args.degree) two.0 in (
      unhindered _ _ _ c.if-products-gt-MOST_PRODUCTS.false (omega (arith, two.1)) (omega (arith, many, c.if-certificate-bytes.false)),
      omega (arith, many, mapped, c.write_codes.ensures.place, length-append map codes),
      ap (λ (ys : List ℕ). ys ++ (c.write_map.new.map ++ c.write_codes.new.codes)) front
          ∙ ap (λ (ys : List ℕ). head ++ (ys ++ c.write_codes.new.codes)) c.write_map.ensures
          ∙ parts_over head map codes c.args.certificate.now c.split_at_mut-map.result.1.now c.write_codes.new.codes
          (c.split_at_mut-map.ensures.back ∙ ap (drop c.div_ceil-bytes.result) c.split_at_mut-front.ensures.back ∙ ap (λ (n : ℕ). drop n (drop 6 c.args.certificate.now)) (many ∙ sym mapped)) c.write_codes.ensures.wrote,
    )
