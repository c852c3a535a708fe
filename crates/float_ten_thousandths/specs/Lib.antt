pub mod TenThousandths
