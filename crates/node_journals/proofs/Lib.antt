mod Fulls
